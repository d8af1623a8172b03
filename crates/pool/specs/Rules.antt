-- 01, Pool: the row rules of each table. "A reference goes to a row that exists, within one table to a lower one. Unused
-- words are 0."
use Rattle.std.specs.Prelude.{ℕ, zero, suc, ◌+◌, ◌-◌, max, Bool, true, false, ◌&&◌, not, cond, List, [], ◌∷◌, ltb, leb, eqb, length}
use Rattle.utf8.specs.Utf8.{utf8, within}
use Rattle.pool.specs.Kinds.{NameKind, name_kind, anonymousᵏ, stringᵏ, numberᵏ, noNameᵏ, LevelKind, level_kind, zeroᵏ, succᵏ, maxᵏ, imaxᵏ, paramᵏ}
use Rattle.pool.specs.Kinds.{noLevelᵏ, ExprKind, expr_kind, varᵏ, sortᵏ, constᵏ, appᵏ, piᵏ, lamᵏ, letᵏ, projᵏ, natᵏ, strᵏ, noExprᵏ}
use Rattle.pool.specs.Tables.{Pool, S, N, L, K, Q, E, string_word, name_word, level_word, list_word, list_entry, expr_word, declar_word, string_at}
use Rattle.pool.specs.Tree.{name_depth, level_depth}
use Rattle.pool.specs.Unfold.{name_at, level_at, has_value}

-- "offsets never falling": no row stands before row 0
unfoldable pub rising : (ℕ → ℕ) → ℕ → Bool
rising offset zero = true
rising offset (suc r) = leb (offset r) (offset (suc r))

-- "Strings: (offset, length) pairs into the byte area, offsets never falling, each UTF-8."
unfoldable pub string_ok : Pool → ℕ → Bool
string_ok p r =
    leb (string_word p.names r 0 + string_word p.names r 1) (length p.bytes)
    && (rising (λ i. string_word p.names i 0) r && utf8 (string_at p r))

-- "Names: kind, prefix, low, high. 0 anonymous; 1 string (low = string row); 2 number (64 bits)."
unfoldable pub name_fields_ok : List ℕ → ℕ → NameKind → Bool
name_fields_ok ws r anonymousᵏ = eqb (name_word ws r 1) 0 && (eqb (name_word ws r 2) 0 && eqb (name_word ws r 3) 0)
name_fields_ok ws r stringᵏ = ltb (name_word ws r 1) r && (ltb (name_word ws r 2) (S ws) && eqb (name_word ws r 3) 0)
name_fields_ok ws r numberᵏ = ltb (name_word ws r 1) r
name_fields_ok ws r noNameᵏ = false

-- "Depth is 1 at a leaf, else one more than the deepest child in its table: at most .. 64 for names and levels."
unfoldable pub name_ok : Pool → ℕ → Bool
name_ok p r = name_fields_ok p.names r (name_kind (name_word p.names r 0)) && leb (name_depth (name_at p r)) 64

-- "Levels: kind, a, b. 0 zero; 1 successor of a; 2 max; 3 imax; 4 parameter (a = name)."
unfoldable pub level_fields_ok : Pool → ℕ → LevelKind → Bool
level_fields_ok p r zeroᵏ = eqb (level_word p.words r 1) 0 && eqb (level_word p.words r 2) 0
level_fields_ok p r succᵏ = ltb (level_word p.words r 1) r && eqb (level_word p.words r 2) 0
level_fields_ok p r maxᵏ = ltb (level_word p.words r 1) r && ltb (level_word p.words r 2) r
level_fields_ok p r imaxᵏ = ltb (level_word p.words r 1) r && ltb (level_word p.words r 2) r
level_fields_ok p r paramᵏ = ltb (level_word p.words r 1) (N p.names) && eqb (level_word p.words r 2) 0
level_fields_ok p r noLevelᵏ = false

unfoldable pub level_ok : Pool → ℕ → Bool
level_ok p r = level_fields_ok p r (level_kind (level_word p.words r 0)) && leb (level_depth (level_at p r)) 64

-- "Lists: (offset, length) pairs into the Q list words, offsets never falling. A list word is a level row."
unfoldable pub list_ok : Pool → ℕ → Bool
list_ok p r =
    leb (list_word p.words r 0 + list_word p.words r 1) (Q p.words) && rising (λ i. list_word p.words i 0) r

unfoldable pub list_entry_ok : Pool → ℕ → Bool
list_entry_ok p i = ltb (list_entry p.words i) (L p.words)

-- "natural (string of one or more digits, no leading zero unless "0")"
abbrev pub is_digit : ℕ → Bool
is_digit b = within 48 58 b

unfoldable pub all_digits : List ℕ → Bool
all_digits [] = true
all_digits (b ∷ s) = is_digit b && all_digits s

unfoldable pub natural : List ℕ → Bool
natural [] = false
natural (b ∷ []) = is_digit b
natural (b ∷ c ∷ s) = not (eqb b 48) && (is_digit b && all_digits (c ∷ s))

-- Document 02, P8: "Index 65,535 is to print `.65536`, and check accepts it; 65,536 is refused 4."
abbrev pub last_projection : ℕ
last_projection = 65535

-- "Expressions: kind, five fields, depth, loose." What each kind asks of its fields:
-- "0 variable (index); 1 sort (level); 2 constant (name, list); 3 application (function, argument); 4 pi and 5 lambda (name,
-- style, type, body); 6 let (name, type, value, body, nondep 0 or 1); 7 projection (type name, index, structure); 8 natural;
-- 9 string literal. Style: 0 default, 1 implicit, 2 strict, 3 instance." "Variable index at most 4,095".
unfoldable pub unused : List ℕ → Bool
unused [] = true
unused (w ∷ ws) = eqb w 0 && unused ws

module _ (p : Pool) (r : ℕ) where
  abbrev field : ℕ → ℕ
  field k = expr_word p.words r k

  abbrev is_name : ℕ → Bool
  is_name n = ltb n (N p.names)

  abbrev is_string : ℕ → Bool
  is_string s = ltb s (S p.names)

  -- a lower row
  abbrev is_lower : ℕ → Bool
  is_lower e = ltb e r

  -- with a greatest index of a projection
  unfoldable pub expr_fields_ok_with : ℕ → ExprKind → Bool
  expr_fields_ok_with last varᵏ = leb (field 1) 4095 && unused (field 2 ∷ field 3 ∷ field 4 ∷ field 5 ∷ [])
  expr_fields_ok_with last sortᵏ = ltb (field 1) (L p.words) && unused (field 2 ∷ field 3 ∷ field 4 ∷ field 5 ∷ [])
  expr_fields_ok_with last constᵏ = is_name (field 1) && (ltb (field 2) (K p.words) && unused (field 3 ∷ field 4 ∷ field 5 ∷ []))
  expr_fields_ok_with last appᵏ = is_lower (field 1) && (is_lower (field 2) && unused (field 3 ∷ field 4 ∷ field 5 ∷ []))
  expr_fields_ok_with last piᵏ = is_name (field 1) && (ltb (field 2) 4 && (is_lower (field 3) && (is_lower (field 4) && unused (field 5 ∷ []))))
  expr_fields_ok_with last lamᵏ = is_name (field 1) && (ltb (field 2) 4 && (is_lower (field 3) && (is_lower (field 4) && unused (field 5 ∷ []))))
  expr_fields_ok_with last letᵏ =
      is_name (field 1) && (is_lower (field 2) && (is_lower (field 3) && (is_lower (field 4) && ltb (field 5) 2)))
  expr_fields_ok_with last projᵏ = is_name (field 1) && (leb (field 2) last && (is_lower (field 3) && unused (field 4 ∷ field 5 ∷ [])))
  expr_fields_ok_with last natᵏ = is_string (field 1) && (natural (string_at p (field 1)) && unused (field 2 ∷ field 3 ∷ field 4 ∷ field 5 ∷ []))
  expr_fields_ok_with last strᵏ = is_string (field 1) && unused (field 2 ∷ field 3 ∷ field 4 ∷ field 5 ∷ [])
  expr_fields_ok_with last noExprᵏ = false

  abbrev pub expr_fields_ok : ExprKind → Bool
  expr_fields_ok = expr_fields_ok_with last_projection

  abbrev depth_of : ℕ → ℕ
  depth_of e = expr_word p.words e 6

  abbrev loose_of : ℕ → ℕ
  loose_of e = expr_word p.words e 7

  -- "Depth is 1 at a leaf, else one more than the deepest child in its table: at most 256 for expressions"
  unfoldable pub depth_by : ExprKind → ℕ
  depth_by varᵏ = 1
  depth_by sortᵏ = 1
  depth_by constᵏ = 1
  depth_by appᵏ = 1 + max (depth_of (field 1)) (depth_of (field 2))
  depth_by piᵏ = 1 + max (depth_of (field 3)) (depth_of (field 4))
  depth_by lamᵏ = 1 + max (depth_of (field 3)) (depth_of (field 4))
  depth_by letᵏ = 1 + max (depth_of (field 2)) (max (depth_of (field 3)) (depth_of (field 4)))
  depth_by projᵏ = 1 + depth_of (field 3)
  depth_by natᵏ = 1
  depth_by strᵏ = 1
  depth_by noExprᵏ = 1

  -- "Loose is the least number above every loose variable index."
  unfoldable pub loose_by : ExprKind → ℕ
  loose_by varᵏ = 1 + field 1
  loose_by sortᵏ = 0
  loose_by constᵏ = 0
  loose_by appᵏ = max (loose_of (field 1)) (loose_of (field 2))
  loose_by piᵏ = max (loose_of (field 3)) (loose_of (field 4) - 1)
  loose_by lamᵏ = max (loose_of (field 3)) (loose_of (field 4) - 1)
  loose_by letᵏ = max (loose_of (field 2)) (max (loose_of (field 3)) (loose_of (field 4) - 1))
  loose_by projᵏ = loose_of (field 3)
  loose_by natᵏ = 0
  loose_by strᵏ = 0
  loose_by noExprᵏ = 0

-- an expression row: its fields, "depth, loose"; with a greatest index of a projection
unfoldable pub expr_ok_with : ℕ → Pool → ℕ → Bool
expr_ok_with last p r =
    let word : ℕ → ℕ = expr_word p.words r in
    let kind : ExprKind = expr_kind (word 0) in
    expr_fields_ok_with p r last kind && (eqb (word 6) (depth_by p r kind) && (leb (word 6) 256 && eqb (word 7) (loose_by p r kind)))

abbrev pub expr_ok : Pool → ℕ → Bool
expr_ok = expr_ok_with last_projection

-- "Declarations: kind, name, list, type, value. 0 axiom, .., 7 recursor; value is used by 2 to 4 only."
unfoldable pub declar_ok : Pool → ℕ → Bool
declar_ok p r =
    let word : ℕ → ℕ = declar_word p.words r in
    ltb (word 0) 8
    && (ltb (word 1) (N p.names)
    && (ltb (word 2) (K p.words)
    && (ltb (word 3) (E p.words) && cond (has_value (word 0)) (ltb (word 4) (E p.words)) (eqb (word 4) 0))))
