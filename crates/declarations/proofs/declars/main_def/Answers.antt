use Rattle.document.proofs.Leaving.{leaves_as, leaves_after}
use mathlib.Core.Path.{sym, ap, ◌∙◌}
use native.Mathlib.Omega.{arith}
use Rattle.std.specs.Prelude.{is_none, not}
use Rattle.document.specs.Sink.{State, written_of}
use Rattle.pretty_printer.proofs.CallLaws.{names_fit}
use Rattle.declarations.proofs.DeclarLaws.{declared_row, def_stops, def_goes_on}
use Rattle.declarations.proofs.declars.main_def.Goals as goal

pub chain_length-length-requires : goal.chain_length-length-requires
chain_length-length-requires c =
    let row = declared_row c.args.p.now.pool.sound c.requires.0 in omega (arith, row.type, c.declar-type_row.ensures.0)

pub returns-then-is_stopped : goal.returns-then-is_stopped
returns-then-is_stopped c =
    let named = leaves_after c.pp_declar_head.ensures c.put_names.ensures in
    leaves_as named
    (def_stops c.args.p.now.pool.sound c.requires.0 _ _ _ c.declar-type_row.ensures.0 c.chain_length-length.ensures.0 _
    (ap (λ (st : State). is_none (written_of st).stop) (sym named.is) ∙ ap not (sym c.is_stopped.ensures ∙ c.if-is_stopped.true)))

pub chain_stack-k-requires : goal.chain_stack-k-requires
chain_stack-k-requires c =
    let going = ap not (sym c.is_stopped.ensures ∙ c.if-is_stopped.false) in
    let fits = names_fit _ _ _ (ap (λ (st : State). is_none (written_of st).stop) (sym c.put_names.ensures.is) ∙ going) in
    let row = declared_row c.args.p.now.pool.sound c.requires.0 in
    (omega (arith, row.type, c.declar-type_row.ensures.0), omega (arith, fits, c.chain_length-length.ensures.0))

pub def_parts-requires : goal.def_parts-requires
def_parts-requires c =
    let row = declared_row c.args.p.now.pool.sound c.requires.0 in (c.chain_stack-k.ensures, omega (arith, row.value c.requires.1, c.declar-value.ensures.0))

pub returns : goal.returns
returns c =
    let named = leaves_after c.pp_declar_head.ensures c.put_names.ensures in
    leaves_as (leaves_after named c.def_parts.ensures)
    (def_goes_on c.args.p.now.pool.sound c.requires.0 _ _ _ c.declar-type_row.ensures.0 c.chain_length-length.ensures.0 _ _ _ c.declar-value.ensures.0
    c.chain_stack-k.ensures)
