-- What the functions of the layout with a pending area ask and ensure.
use Rattle.std.specs.Prelude.{ℕ, zero, suc, ◌+◌, ◌-◌, ◌*◌, ◌/◌, ◌%◌, ◌^◌, ◌<◌, ◌≤◌, Bool, true, false, List, [], ◌∷◌, ◌≡◌, length, get_or, set, eqb, leb}
use Rattle.document.specs.Rows.{word, left_of}
use Rattle.layout.specs.declared.cursor.Cursor.{Cursor}
use Rattle.layout.specs.Layout.{tested}
use Rattle.layout.specs.Contract.{Given, next_of_left}
use Rattle.layout_pending.specs.declared.entries.Entry.{Entry}

-- ---- the pending area

-- 1 if it holds
abbrev pub bit : Bool → ℕ
bit true = 1
bit false = 0

-- the entry at a place: its words are the row, nest × 2 + flat, the distance
abbrev pub entry_at : List ℕ → ℕ → Entry
entry_at p at =
    record {
      row = get_or p (at * 3) 0;
      nest = get_or p (at * 3 + 1) 0 / 2;
      flat = eqb (get_or p (at * 3 + 1) 0 % 2) 1;
      next = get_or p (at * 3 + 2) 0;
    }

-- the area with an entry put at a place
abbrev pub put_at : List ℕ → ℕ → Entry → List ℕ
put_at p at e =
    set (set (set p (at * 3) (e.row % 2 ^ 32)) (at * 3 + 1) ((e.nest * 2 + bit e.flat) % 2 ^ 32)) (at * 3 + 2) (e.next % 2 ^ 32)

-- the entries at the places below n, the top one first
unfoldable pub stack : List ℕ → ℕ → List Entry
stack p zero = []
stack p (suc n) = entry_at p n ∷ stack p n

-- ---- the entries that take the place of one

abbrev pub whole_entry : ℕ → Entry
whole_entry count = record { row = count - 1; nest = 0; flat = false; next = 0 }

abbrev pub left_child : List ℕ → Entry → Entry
left_child rows e =
    record { row = left_of rows e.row; nest = e.nest; flat = e.flat; next = next_of_left rows e.row e.next }

-- the row before it, in a nest, and flat or not
abbrev pub last_child : Entry → ℕ → Bool → Entry
last_child e nest flat = record { row = e.row - 1; nest = nest; flat = flat; next = e.next }

abbrev pub right_child : Entry → Entry
right_child e = last_child e e.nest e.flat

abbrev pub nested : List ℕ → Entry → Entry
nested rows e = last_child e (e.nest + word rows e.row 1) e.flat

-- inside a flat group a group is flat, else as the fit test says
abbrev pub flat_or : Bool → Bool → Bool
flat_or true fit = true
flat_or false fit = fit

abbrev pub flat_group : List ℕ → Entry → Cursor → Bool
flat_group rows e c = flat_or e.flat (leb (c.position + word rows e.row 4 + e.next) c.end)

abbrev pub grouped : List ℕ → Entry → Cursor → Entry
grouped rows e c = last_child e e.nest (flat_group rows e c)

abbrev pub tested_unless : Bool → Cursor → Cursor
tested_unless true c = c
tested_unless false c = tested c

-- ---- what is asked

-- the row is one of the area's, and its fit test stays below the machine's limit
pub record TestRoom (rows : List ℕ) (e : Entry) (c : Cursor) : Type 0 where
  pub row : e.row * 7 + 7 ≤ length rows
  pub next : e.next < 4611686018427387904
  pub position : c.position < 4611686018427387904
  pub tests : c.tests + 1 < 18446744073709551616

-- the rows keep the row rules, the last one is their whole, and the pending area has three words for each
pub record Lends (rows : List ℕ) (count : ℕ) (texts : List ℕ) (width : ℕ) (pending : List ℕ) : Type 0 where
  pub total : ℕ
  pub given : Given rows texts width total count
  pub some : 0 < count
  pub whole : word rows (count - 1) 3 ≡ count
  pub room : count * 3 ≤ length pending
