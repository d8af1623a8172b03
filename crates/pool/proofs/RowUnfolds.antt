-- Name rows, level rows and lists of a sound pool: each kind's fields, and its tree over the trees of lower rows.
use Prim.Native.Nat.{ℕ, zero, suc, ◌+◌, ◌*◌, ◌^◌, ◌≤◌, ◌<◌}
use native.Mathlib.Omega.{arith}
use mathlib.Core.Bool.{true}
use mathlib.Core.Path.{◌≡◌, refl, sym, ap, ◌∙◌, subst}
use lib.ListN.{length}
use lib.Dec.{leb, ltb}
use borrow.Author.Tests.{ltb-true, leb-true, eqb-true}
use Rattle.pool.specs.Tables.{Pool, S, N, L, K, Q, name_word, level_word, list_word, list_entry, string_word, string_at}
use Rattle.pool.specs.Kinds.{name_kind, stringᵏ, level_kind, maxᵏ, imaxᵏ}
use Rattle.pool.specs.Tree.{Name, anonymous, string, number, Level, zeroˡ, succˡ, maxˡ, imaxˡ, paramˡ, name_depth, name_shape, level_shape}
use Rattle.pool.specs.Unfold.{name_node, name_at, level_node, level_at}
use Rattle.pool.specs.Rules.{name_fields_ok, name_ok, level_fields_ok, level_ok, list_ok, list_entry_ok, string_ok}
use Rattle.pool.specs.Sound.{Sound}
use Rattle.basics.proofs.Booleans.{and_left, and_right, false-true}
use Rattle.pool.proofs.TreeLaws.{label}
use Rattle.pool.proofs.Unfolds.{NamesKept, LevelsKept, name_unfolds, level_unfolds}

pub name_kept : (p : Pool) → Sound p → NamesKept p (N p.names)
unfolding name_ok
name_kept p sound j h = and_left (name_fields_ok p.names j (name_kind (name_word p.names j 0))) _ (sound.names j h)

pub level_kept : (p : Pool) → Sound p → LevelsKept p (L p.words)
unfolding level_ok
level_kept p sound j h = and_left (level_fields_ok p j (level_kind (level_word p.words j 0))) _ (sound.levels j h)

-- a string row lies in the byte area
abbrev pub StringFits : Pool → ℕ → Type 0
StringFits p r = string_word p.names r 0 + string_word p.names r 1 ≤ length p.bytes

pub string_fits : (p : Pool) → Sound p → (r : ℕ) → r < S p.names → StringFits p r
unfolding string_ok
string_fits p sound r h =
    leb-true _ (length p.bytes)
    (and_left (leb (string_word p.names r 0 + string_word p.names r 1) (length p.bytes)) _ (sound.strings r h))

-- ---- names

-- a name row by its kind: that what it refers to is there, and its tree
pub data NameRow (p : Pool) (r : ℕ) : Type 0 where
  is_anonymous_lem : name_word p.names r 0 ≡ 0 → name_at p r ≡ anonymous → NameRow p r
  is_string_lem : name_word p.names r 0 ≡ 1 → name_word p.names r 1 < r → StringFits p (name_word p.names r 2)
      → name_at p r ≡ string (name_at p (name_word p.names r 1)) (string_at p (name_word p.names r 2)) → NameRow p r
  is_number_lem : name_word p.names r 0 ≡ 2 → name_word p.names r 1 < r
      → name_at p r ≡ number (name_at p (name_word p.names r 1)) (name_word p.names r 2 + name_word p.names r 3 * 2 ^ 32) → NameRow p r

name_kind_of : {p : Pool} {r : ℕ} → NameRow p r → name_word p.names r 0 < 3
name_kind_of (is_anonymous_lem k e) = omega arith
name_kind_of (is_string_lem k l f e) = omega arith
name_kind_of (is_number_lem k l e) = omega arith

name_label_of : {p : Pool} {r : ℕ} → NameRow p r → label (name_shape (name_at p r)) ≡ name_word p.names r 0
unfolding name_shape label
name_label_of (is_anonymous_lem k e) = ap (λ (n : Name). label (name_shape n)) e ∙ sym k
name_label_of (is_string_lem k l f e) = ap (λ (n : Name). label (name_shape n)) e ∙ sym k
name_label_of (is_number_lem k l e) = ap (λ (n : Name). label (name_shape n)) e ∙ sym k

module _ (p : Pool) (sound : Sound p) (r : ℕ) (h : r < N p.names) where
  abbrev nw : ℕ → ℕ
  nw k = name_word p.names r k

  name_node_at : (k : ℕ) → nw 0 ≡ k → name_at p r ≡ name_node p (name_at p) r (name_kind k)
  name_node_at k e = name_unfolds p (N p.names) (name_kept p sound) r h ∙ ap (λ (i : ℕ). name_node p (name_at p) r (name_kind i)) e

  name_kept_at : (k : ℕ) → nw 0 ≡ k → name_fields_ok p.names r (name_kind k) ≡ true
  name_kept_at k e = subst (λ (i : ℕ). name_fields_ok p.names r (name_kind i) ≡ true) e (name_kept p sound r h)

  pub anonymous_at : nw 0 ≡ 0 → name_at p r ≡ anonymous
  unfolding name_kind name_node
  anonymous_at e = name_node_at 0 e

  pub string_at_lem : nw 0 ≡ 1 → name_at p r ≡ string (name_at p (nw 1)) (string_at p (nw 2))
  unfolding name_kind name_node
  string_at_lem e = name_node_at 1 e

  pub number_at : nw 0 ≡ 2 → name_at p r ≡ number (name_at p (nw 1)) (nw 2 + nw 3 * 2 ^ 32)
  unfolding name_kind name_node
  number_at e = name_node_at 2 e

  pub string_ok_lem : nw 0 ≡ 1 → (nw 1 < r) × (nw 2 < S p.names)
  unfolding name_kind name_fields_ok
  string_ok_lem e =
      let ok : name_fields_ok p.names r stringᵏ ≡ true = name_kept_at 1 e in
      let ok2 = and_right (ltb (nw 1) r) _ ok in
      (ltb-true (nw 1) r (and_left (ltb (nw 1) r) _ ok), ltb-true (nw 2) (S p.names) (and_left (ltb (nw 2) (S p.names)) _ ok2))

  pub number_ok : nw 0 ≡ 2 → nw 1 < r
  unfolding name_kind name_fields_ok
  number_ok e = ltb-true (nw 1) r (name_kept_at 2 e)

  name_row_of : (k : ℕ) → nw 0 ≡ k → name_fields_ok p.names r (name_kind k) ≡ true → NameRow p r
  unfolding name_kind name_fields_ok
  name_row_of zero e ok = is_anonymous_lem e (anonymous_at e)
  name_row_of (suc zero) e ok = is_string_lem e (string_ok_lem e).0 (string_fits p sound (nw 2) (string_ok_lem e).1) (string_at_lem e)
  name_row_of (suc (suc zero)) e ok = is_number_lem e (number_ok e) (number_at e)
  name_row_of (suc (suc (suc k))) e ok = false-true ok

  pub name_row : NameRow p r
  name_row = name_row_of (nw 0) refl (name_kept p sound r h)

  pub name_kind_small : nw 0 < 3
  name_kind_small = name_kind_of name_row

  pub name_label_word : label (name_shape (name_at p r)) ≡ nw 0
  name_label_word = name_label_of name_row

  pub name_depth_small : name_depth (name_at p r) ≤ 64
  unfolding name_ok
  name_depth_small = leb-true _ 64 (and_right (name_fields_ok p.names r (name_kind (nw 0))) _ (sound.names r h))

-- ---- levels

-- a level row by its kind; a successor's second word is 0
pub data LevelRow (p : Pool) (r : ℕ) : Type 0 where
  is_zero : level_word p.words r 0 ≡ 0 → level_at p r ≡ zeroˡ → LevelRow p r
  is_succ : level_word p.words r 0 ≡ 1 → level_word p.words r 1 < r → level_at p r ≡ succˡ (level_at p (level_word p.words r 1)) → LevelRow p r
  is_max : level_word p.words r 0 ≡ 2 → level_word p.words r 1 < r → level_word p.words r 2 < r
      → level_at p r ≡ maxˡ (level_at p (level_word p.words r 1)) (level_at p (level_word p.words r 2)) → LevelRow p r
  is_imax : level_word p.words r 0 ≡ 3 → level_word p.words r 1 < r → level_word p.words r 2 < r
      → level_at p r ≡ imaxˡ (level_at p (level_word p.words r 1)) (level_at p (level_word p.words r 2)) → LevelRow p r
  is_param : level_word p.words r 0 ≡ 4 → level_word p.words r 1 < N p.names
      → level_at p r ≡ paramˡ (name_at p (level_word p.words r 1)) → LevelRow p r

level_kind_of : {p : Pool} {r : ℕ} → LevelRow p r → level_word p.words r 0 < 5
level_kind_of (is_zero k e) = omega arith
level_kind_of (is_succ k l e) = omega arith
level_kind_of (is_max k l m e) = omega arith
level_kind_of (is_imax k l m e) = omega arith
level_kind_of (is_param k l e) = omega arith

level_label_of : {p : Pool} {r : ℕ} → LevelRow p r → label (level_shape (level_at p r)) ≡ level_word p.words r 0
unfolding level_shape label
level_label_of (is_zero k e) = ap (λ (n : Level). label (level_shape n)) e ∙ sym k
level_label_of (is_succ k l e) = ap (λ (n : Level). label (level_shape n)) e ∙ sym k
level_label_of (is_max k l m e) = ap (λ (n : Level). label (level_shape n)) e ∙ sym k
level_label_of (is_imax k l m e) = ap (λ (n : Level). label (level_shape n)) e ∙ sym k
level_label_of (is_param k l e) = ap (λ (n : Level). label (level_shape n)) e ∙ sym k

module _ (p : Pool) (sound : Sound p) (r : ℕ) (h : r < L p.words) where
  abbrev lw : ℕ → ℕ
  lw k = level_word p.words r k

  level_node_at : (k : ℕ) → lw 0 ≡ k → level_at p r ≡ level_node p (level_at p) r (level_kind k)
  level_node_at k e = level_unfolds p (L p.words) (level_kept p sound) r h ∙ ap (λ (i : ℕ). level_node p (level_at p) r (level_kind i)) e

  level_kept_at : (k : ℕ) → lw 0 ≡ k → level_fields_ok p r (level_kind k) ≡ true
  level_kept_at k e = subst (λ (i : ℕ). level_fields_ok p r (level_kind i) ≡ true) e (level_kept p sound r h)

  pub zero_at : lw 0 ≡ 0 → level_at p r ≡ zeroˡ
  unfolding level_kind level_node
  zero_at e = level_node_at 0 e

  pub succ_at : lw 0 ≡ 1 → level_at p r ≡ succˡ (level_at p (lw 1))
  unfolding level_kind level_node
  succ_at e = level_node_at 1 e

  pub max_at : lw 0 ≡ 2 → level_at p r ≡ maxˡ (level_at p (lw 1)) (level_at p (lw 2))
  unfolding level_kind level_node
  max_at e = level_node_at 2 e

  pub imax_at : lw 0 ≡ 3 → level_at p r ≡ imaxˡ (level_at p (lw 1)) (level_at p (lw 2))
  unfolding level_kind level_node
  imax_at e = level_node_at 3 e

  pub param_at : lw 0 ≡ 4 → level_at p r ≡ paramˡ (name_at p (lw 1))
  unfolding level_kind level_node
  param_at e = level_node_at 4 e

  pub succ_ok : lw 0 ≡ 1 → lw 1 < r
  unfolding level_kind level_fields_ok
  succ_ok e = ltb-true (lw 1) r (and_left (ltb (lw 1) r) _ (level_kept_at 1 e))

  pub succ_rest : lw 0 ≡ 1 → lw 2 ≡ 0
  unfolding level_kind level_fields_ok
  succ_rest e = eqb-true (lw 2) 0 (and_right (ltb (lw 1) r) _ (level_kept_at 1 e))

  pub max_ok : lw 0 ≡ 2 → (lw 1 < r) × (lw 2 < r)
  unfolding level_kind level_fields_ok
  max_ok e =
      let ok : level_fields_ok p r maxᵏ ≡ true = level_kept_at 2 e in
      (ltb-true (lw 1) r (and_left (ltb (lw 1) r) _ ok), ltb-true (lw 2) r (and_right (ltb (lw 1) r) _ ok))

  pub imax_ok : lw 0 ≡ 3 → (lw 1 < r) × (lw 2 < r)
  unfolding level_kind level_fields_ok
  imax_ok e =
      let ok : level_fields_ok p r imaxᵏ ≡ true = level_kept_at 3 e in
      (ltb-true (lw 1) r (and_left (ltb (lw 1) r) _ ok), ltb-true (lw 2) r (and_right (ltb (lw 1) r) _ ok))

  pub param_ok : lw 0 ≡ 4 → lw 1 < N p.names
  unfolding level_kind level_fields_ok
  param_ok e = ltb-true (lw 1) (N p.names) (and_left (ltb (lw 1) (N p.names)) _ (level_kept_at 4 e))

  level_row_of : (k : ℕ) → lw 0 ≡ k → level_fields_ok p r (level_kind k) ≡ true → LevelRow p r
  unfolding level_kind level_fields_ok
  level_row_of zero e ok = is_zero e (zero_at e)
  level_row_of (suc zero) e ok = is_succ e (succ_ok e) (succ_at e)
  level_row_of (suc (suc zero)) e ok = is_max e (max_ok e).0 (max_ok e).1 (max_at e)
  level_row_of (suc (suc (suc zero))) e ok = is_imax e (imax_ok e).0 (imax_ok e).1 (imax_at e)
  level_row_of (suc (suc (suc (suc zero)))) e ok = is_param e (param_ok e) (param_at e)
  level_row_of (suc (suc (suc (suc (suc k))))) e ok = false-true ok

  pub level_row : LevelRow p r
  level_row = level_row_of (lw 0) refl (level_kept p sound r h)

  pub level_kind_small : lw 0 < 5
  level_kind_small = level_kind_of level_row

  pub level_label_word : label (level_shape (level_at p r)) ≡ lw 0
  level_label_word = level_label_of level_row

-- ---- lists

-- a list row lies in the list words, which are level rows
pub list_fits : (p : Pool) → Sound p → (r : ℕ) → r < K p.words → list_word p.words r 0 + list_word p.words r 1 ≤ Q p.words
unfolding list_ok
list_fits p sound r h = leb-true _ (Q p.words) (and_left (leb (list_word p.words r 0 + list_word p.words r 1) (Q p.words)) _ (sound.lists r h))

pub entry-fits : (p : Pool) → Sound p → (i : ℕ) → i < Q p.words → list_entry p.words i < L p.words
unfolding list_entry_ok
entry-fits p sound i h = ltb-true (list_entry p.words i) (L p.words) (sound.entries i h)
