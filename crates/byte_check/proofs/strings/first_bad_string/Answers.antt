use Rattle.pool.specs.Rules.{string_ok}
use Rattle.pool.specs.Tables.{string_word}
use Rattle.pool.specs.Views.{read}
use Rattle.byte_check.proofs.Scan.{found_at, found_none}
use Rattle.byte_check.proofs.RunLaws.{ascii_front, known_none, known_next, before_next}
use Rattle.byte_check.specs.Runs.{before}
use borrow.Author.Count.{below_none, below_more}
use Prim.Native.Nat.{ℕ}
use mathlib.Core.Path.{refl, sym, ◌∙◌}
use native.Mathlib.Omega.{arith}
use Rattle.byte_check.proofs.strings.first_bad_string.Goals as goal

pub loop-r-init : goal.loop-r-init
unfolding before
loop-r-init c = (below_none _, known_none _, refl)

pub string_ok-requires : goal.string_ok-requires
string_ok-requires c =
    let ascii = ascii_front c.args.pool.now.bytes.now _ _ c.ascii_blocks-ascii.ensures.0 c.ascii_blocks-ascii.ensures.1 in
    (rw c.loop-r.invariant.2 c.loop-r.invariant.1, c.loop-r.invariant.2, ascii)

pub returns-then-not-string_ok : goal.returns-then-not-string_ok
returns-then-not-string_ok c =
    let f = sym c.string_ok.ensures ∙ c.if-not-string_ok.true in
    found_at (string_ok (read c.args.pool.now)) _ _ (omega (arith, c.type_inv.pool)) c.loop-r.invariant.0 f

pub loop-r-preserved : goal.loop-r-preserved
loop-r-preserved c =
    let right = sym c.string_ok.ensures ∙ c.if-not-string_ok.false in (
      below_more _ _ c.loop-r.invariant.0 right,
      known_next (read c.args.pool.now) c.loop-r.r _ c.string_end.ensures.0 c.loop-r.known _ c.loop-r.invariant.1 right c.max-known.ensures,
      before_next (λ (i : ℕ). string_word c.args.pool.now.names.words.now i 0) c.loop-r.r _ c.string-last.ensures.0,
    )

pub returns : goal.returns
returns c = found_none (string_ok (read c.args.pool.now)) _ (λ k h. c.loop-r.invariant.0 k (omega (arith, c.type_inv.pool)))
