-- The constant pieces of a document, put one after the other: what the printers of chains and lets do between two parts.
use Rattle.std.specs.Prelude.{ℕ, ◌+◌, Bool, true, false}
use Prim.Native.String.{String}
use Rattle.utf8.specs.Quoted.{bytes}
use Rattle.document.specs.Walk.{Marked}
use Rattle.document.specs.Sink.{State, put_text, put_join, put_break, put_nest, put_group, emit}
use Rattle.pieces.specs.Docs.{number_doc, opening, closing}
use Rattle.pieces.specs.Tiles.{end_tile}

-- a quoted piece, joined to what stands before it
unfoldable pub join_piece : String → State → State
join_piece s st = put_join (put_text (bytes s) st)

-- a blank break, joined to what stands before it
unfoldable pub join_line : State → State
join_line st = put_join (put_break 1 st)

-- " "+":"+|
unfoldable pub put_colon : State → State
put_colon st = join_line (join_piece ":" (join_piece " " st))

-- after an arrow binder's type: N(G(type))+" "+U+2192+|, all G
unfoldable pub put_arrow : ℕ → State → State
put_arrow indent st = put_group (join_line (join_piece "→" (join_piece " " (put_nest indent (put_group st)))))

-- "forall"+" ", "fun"+" "
unfoldable pub start_run : Bool → State → State
start_run true st = join_piece " " (put_text (bytes "forall") st)
start_run false st = join_piece " " (put_text (bytes "fun") st)

-- after the binders: +",", +" "+"=>"; then N(G(..))+|
unfoldable pub mark_run : Bool → State → State
mark_run true st = join_piece "," st
mark_run false st = join_piece "=>" (join_piece " " st)

unfoldable pub end_run : ℕ → Bool → State → State
end_run indent c st = join_line (put_nest indent (put_group (mark_run c (put_join st))))

-- after a group's type: G(type), joined; the bracketed part joined to the opening; the closing; N(G(..))
unfoldable pub end_group : ℕ → Marked → State → State
end_group indent closing st = put_nest indent (put_group (put_join (emit closing (put_join (put_join (put_group st))))))

-- before the names of a group: its opening bracket, after a break where it is a further one of a tile
unfoldable pub open_group : Bool → ℕ → State → State
open_group true style st = emit (opening style) st
open_group false style st = emit (opening style) (put_break 1 st)

-- after its type
unfoldable pub close_group : Bool → ℕ → ℕ → State → State
close_group true indent style st = end_group indent (closing style) st
close_group false indent style st = end_tile (end_group indent (closing style) st)

-- after the structure of a projection: G(..)+"."+number
unfoldable pub end_proj : ℕ → State → State
end_proj i st = put_join (emit (number_doc (i + 1)) (join_piece "." (put_group st)))

-- "let"+" "
unfoldable pub start_let : State → State
start_let st = join_piece " " (put_text (bytes "let") st)

-- after a let's type: G(type), joined to the name; G(..), joined to "let"; then " "+":="+|
unfoldable pub put_assign : State → State
put_assign st = join_line (join_piece ":=" (join_piece " " (put_join (put_group (put_join (put_group st))))))

-- after a let's value: G(value), joined; +";"; N(G(..))+|
unfoldable pub end_let : ℕ → State → State
end_let indent st = join_line (put_nest indent (put_group (join_piece ";" (put_join (put_group st)))))
