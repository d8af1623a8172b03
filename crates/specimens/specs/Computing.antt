-- Everything that a print computes with: a proof by computation says `unfolding computing`.
use Rattle.utf8.specs.Utf8.{utf8_from, utf8, points_from, points}
use Rattle.utf8.specs.Letterlike.{is_start, is_rest, all_rest, letterlike, same_bytes, plain}
use Rattle.utf8.specs.Quoted.{encode, bytes}
use Rattle.pool.specs.Tables.{string_word, name_word, level_word, list_word, list_entry, expr_word, declar_word, notation_word, string_at}
use Rattle.pool.specs.Kinds.{name_kind, level_kind, expr_kind, notation_kind}
use Rattle.pool.specs.Tree.{forget, forgetᵈ, name_depth, level_depth, depth, loose, lift, occurs, name_shape, level_shape, level_shapes, shape, same_shape}
use Rattle.pool.specs.Unfold.{name_node, name_to, name_at, level_node, level_to, level_at, levels_from, list_at, expr_node, expr_to, expr_at, declar_at}
use Rattle.pool.specs.Rules.{rising, string_ok, name_fields_ok, name_ok, level_fields_ok, level_ok, list_ok, list_entry_ok}
use Rattle.pool.specs.Rules.{all_digits, natural, unused, expr_fields_ok_with, depth_by, loose_by, expr_ok_with, declar_ok}
use Rattle.pool.specs.Notation.{operator_at, operator_from, operator_of, notation_fields_ok, given_before, notation_ok}
use Rattle.byte_check.specs.Scan.{first_bad}
use Rattle.pool_check.specs.Check.{number, place, rows_verdict_with, verdict_with}
use Rattle.document.specs.Doc.{row_count, flat_size, has_break, first_break, text_bytes}
use Rattle.document.specs.Rows.{node, doc_at, text_before, row_ok, Valid, scan, whole, fault}
use Rattle.document.specs.Stored.{own_row, stored, Fine}
use Rattle.document.specs.Walk.{unmarked, text_events, events, step, steps, walk}
use Rattle.layout.specs.Layout.{run, layout, pieces}
use Rattle.layout.specs.Listing.{bytes_of, broken_places, longest_row}
use Rattle.layout.specs.Groups.{groups_from, outside}
use Rattle.layout.specs.Paint.{paint}
use Rattle.layout.specs.Call.{untouched, listed, outcome}
use Rattle.pieces.specs.Docs.{quoted, under, tile_from, tile, digits_to, digits, number_doc, opening, closing}
use Rattle.names.specs.Names.{escaped, dotted, joined, is_anonymous, name_text, name_doc, is_hygienic}
use Rattle.levels.specs.Levels.{plus, max_par, succs_par, sort_doc, levels_doc}
use Rattle.binders.specs.Runs.{leading, following, runs_to, runs}
use Rattle.binders.specs.Binders.{binders, chain_body, pushed, in_force, is_arrow, is_named_pi, goes_along, same_group, binder_name, group_doc, telescope}
use Rattle.binders.specs.Binders.{arrow_par, forall_par, fun_par, run_par, runs_par, binders_par}
use Rattle.binders.specs.Operators.{head_operator, prefix_par, postfix_par, infix_par}
use Rattle.pretty_printer.specs.Exprs.{app_head, app_args, app_par, operator_par, applied_par, chain_par, let_par, expr_par_to, expr_par, expr_doc}
use Rattle.binders.specs.Variables.{var_doc}
use Rattle.declarations.specs.Declars.{keyword, info, can_leave, taken, def_rest, main_def, axiom_rest, main_axiom, declar_doc}
use Rattle.lister.specs.Answers.{number as Answers·number, place as Answers·place, stop_answer, of_laid}
use Rattle.pool_check.specs.Check.{is_accepted}
use Rattle.lister.specs.Prints.{untouched as Prints·untouched, document_cleared, filled, document_listed, after_walk, print_doc, checked, print_with}
use Rattle.lister.specs.Handing.{has_text, text_span, has_string, string_span, span_of, area_of, hand_out}

unfoldable pub computing : Unit {0}
unfolding utf8_from utf8 points_from points is_start is_rest all_rest letterlike same_bytes plain encode bytes string_word name_word level_word list_word list_entry expr_word declar_word
    notation_word string_at name_kind level_kind expr_kind notation_kind forget forgetᵈ name_depth level_depth depth loose lift occurs name_shape level_shape level_shapes shape same_shape name_node name_to name_at
    level_node level_to level_at levels_from list_at expr_node expr_to expr_at declar_at rising string_ok name_fields_ok name_ok level_fields_ok level_ok list_ok list_entry_ok all_digits
    natural unused expr_fields_ok_with depth_by loose_by expr_ok_with declar_ok operator_at operator_from operator_of
    notation_fields_ok given_before notation_ok number place first_bad rows_verdict_with verdict_with row_count flat_size has_break first_break text_bytes
    node doc_at text_before row_ok Valid scan whole fault own_row stored Fine unmarked text_events events step steps walk run layout pieces bytes_of broken_places longest_row groups_from
    outside paint untouched listed outcome quoted under tile_from tile digits_to digits number_doc escaped dotted joined is_anonymous name_text name_doc is_hygienic plus max_par succs_par
    sort_doc levels_doc leading following runs_to runs binders chain_body pushed in_force is_arrow is_named_pi goes_along same_group opening closing binder_name group_doc telescope arrow_par
    forall_par fun_par run_par runs_par binders_par var_doc head_operator prefix_par postfix_par infix_par
    app_head app_args app_par operator_par applied_par chain_par let_par expr_par_to expr_par expr_doc keyword info can_leave taken def_rest main_def
    axiom_rest main_axiom declar_doc Answers·number Answers·place is_accepted stop_answer of_laid Prints·untouched document_cleared filled document_listed after_walk print_doc checked
    print_with has_text text_span has_string string_span span_of area_of hand_out
computing = tt
