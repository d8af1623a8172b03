use Rattle.document.proofs.Leaving.{leaves_as, leaves_after}
use mathlib.Core.Path.{sym, ap, ◌∙◌}
use native.Mathlib.Omega.{arith}
use Rattle.std.specs.Prelude.{is_none, not}
use Rattle.document.specs.Sink.{State, written_of}
use Rattle.pretty_printer.proofs.CallLaws.{names_fit}
use Rattle.declarations.proofs.DeclarLaws.{declared_row, axiom_stops, axiom_goes_on, chain_after, run_fits}
use Rattle.declarations.proofs.declars.main_axiom.Goals as goal

pub chain_length-length-requires : goal.chain_length-length-requires
chain_length-length-requires c =
    let row = declared_row c.args.p.now.pool.sound c.requires in omega (arith, row.type, c.declar-type_row.ensures.0)

pub returns-then-is_stopped : goal.returns-then-is_stopped
returns-then-is_stopped c =
    let named = leaves_after c.pp_declar_head.ensures c.put_names.ensures in
    leaves_as named
    (axiom_stops c.args.p.now.pool.sound c.requires _ _ _ c.declar-type_row.ensures.0 c.chain_length-length.ensures.0 _
    (ap (λ (st : State). is_none (written_of st).stop) (sym named.is) ∙ ap not (sym c.is_stopped.ensures ∙ c.if-is_stopped.true)))

pub chain_stack-k-requires : goal.chain_stack-k-requires
chain_stack-k-requires c =
    let going = ap not (sym c.is_stopped.ensures ∙ c.if-is_stopped.false) in
    let fits = names_fit _ _ _ (ap (λ (st : State). is_none (written_of st).stop) (sym c.put_names.ensures.is) ∙ going) in
    let row = declared_row c.args.p.now.pool.sound c.requires in
    (omega (arith, row.type, c.declar-type_row.ensures.0), omega (arith, fits, c.chain_length-length.ensures.0))

pub axiom_rest-requires : goal.axiom_rest-requires
axiom_rest-requires c =
    let few = run_fits _ _ _ _ c.run_end-end.ensures in
    record {
      r_in_chain = (c.chain_stack-k.ensures, few.0);
      row_in_chain = (
        chain_after c.chain_stack-k.ensures _ _ few.0 (omega
            (arith, few.1, c.chain_stack-k.ensures.asked.row)) c.run_end-end.ensures.tree,
        c.run_end-end.ensures.tree,
      );
    }

pub returns : goal.returns
returns c =
    let named = leaves_after c.pp_declar_head.ensures c.put_names.ensures in
    leaves_as (leaves_after (leaves_after named c.axiom_rest.ensures) c.put_join.ensures)
    (axiom_goes_on c.args.p.now.pool.sound c.requires _ _ _ c.declar-type_row.ensures.0 c.chain_length-length.ensures.0 _ _ _ _ c.run_end-end.ensures
    c.chain_stack-k.ensures)
