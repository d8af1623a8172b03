use Rattle.std.proofs.Common.{rules}
use Rattle.std.proofs.lemmas.Iterator.{first_from_Range}
use Rattle.byte_check.proofs.Scan.{found_is}
use Rattle.pool.specs.Rules.{list_entry_ok}
use Rattle.pool.specs.Tables.{Q}
use Rattle.pool.specs.Views.{read}
use borrow.Author.Tests.{tests}
use native.Mathlib.Omega.{arith}
use mathlib.Core.Bool.{true, false}
use mathlib.Core.Path.{◌≡◌}
use Rattle.pool_check.proofs.lists.first_bad_entry.Goals as goal

pub returns : goal.returns
returns c =
    let p = read c.args.pool.now in
    let count : c.args.pool.now.words.tables.entries ≡ Q p.words = omega (arith, c.type_inv.pool) in
    rw (← count) (found_is (list_entry_ok p) c.args.pool.now.words.tables.entries c.find.result
    (first_from_Range _ _ _ _ (λ r. list_entry_ok p r ≡ false) (λ r. list_entry_ok p r ≡ true) c.find.ensures.ran (λ x q k. search (rules, tests)) (λ x q k. search (rules, tests))))
