-- What the goals of the printers are proved by.
use Rattle.pretty_printer.proofs.SinkLaws.{stays, names_went}
use Rattle.pretty_printer.proofs.RowWords.{proj_rows, var_index, let_name, let_type, let_value, let_inside, binder_type, binder_between, leaf_low, leaf_high}
use Rattle.pretty_printer.proofs.RowLaws.{asked_below, var_row, leaf_row, proj_row, proj_level, let_row, let_head_row, let_stops, let_goes_on, chain_row_stops, chain_row_goes_on, tail_row, arrow_row, run_row}
use Rattle.pretty_printer.proofs.SpineRows.{spine_head, spine_argument, spine_whole}
use Rattle.pretty_printer.proofs.OperatorRows.{operator_row, prefix_row, infix_row, postfix_row}
use Rattle.pretty_printer.proofs.ChainRows.{part_some, part_few, part_room, part_later, part_row}
use Rattle.pretty_printer.proofs.GroupRows.{none_row, group_type, group_style, group_some, group_few, group_room, groups_row, last_group}

pub ruleset printing = (stays, names_went, asked_below, proj_rows, var_index, let_name, let_type, let_value, let_inside, binder_type, binder_between, leaf_low, leaf_high, var_row, leaf_row, proj_row, proj_level, let_row, let_head_row, let_stops, let_goes_on, chain_row_stops, chain_row_goes_on, tail_row, arrow_row, run_row, spine_head, spine_argument, spine_whole, operator_row, prefix_row, infix_row, postfix_row, part_some, part_few, part_room, part_later, part_row, none_row, group_type, group_style, group_some, group_few, group_room, groups_row, last_group)
