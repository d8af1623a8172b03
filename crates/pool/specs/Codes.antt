-- 01, Pool: the words that stand for the kinds of rows and the styles of binders, and what reading such a word gives.
use Rattle.std.specs.Prelude.{ℕ, ◌≡◌, ◌<◌, Option, MatchOption, Result, MatchResult}
use Rattle.pool.specs.declared.kinds.NameKind.{NameKind}
use Rattle.pool.specs.declared.kinds.NameKind.TheVariants.{Anonymous, String as StringName, Number}
use Rattle.pool.specs.declared.kinds.LevelKind.{LevelKind}
use Rattle.pool.specs.declared.kinds.LevelKind.TheVariants.{Zero, Succ, Max, IMax, Param}
use Rattle.pool.specs.declared.kinds.ExprKind.{ExprKind}
use Rattle.pool.specs.declared.kinds.ExprKind.TheVariants.{Var, Sort, Const, App, Pi, Lambda, Let, Proj, Nat, String}
use Rattle.pool.specs.declared.kinds.BinderStyle.{BinderStyle}
use Rattle.pool.specs.declared.kinds.BinderStyle.TheVariants.{Default, Implicit, Strict, Instance}
use Rattle.pool.specs.declared.kinds.DeclarKind.{DeclarKind}
use Rattle.pool.specs.declared.kinds.DeclarKind.TheVariants.{Axiom, Quotient, Theorem, Definition, Opaque, Inductive, Constructor, Recursor}
use Rattle.pool.specs.declared.kinds.NotationKind.{NotationKind}
use Rattle.pool.specs.declared.kinds.NotationKind.TheVariants.{Prefix, Infix, Postfix}
use Rattle.pool.specs.declared.kinds.UnknownKind.{UnknownKind}

-- "0 anonymous; 1 string (low = string row); 2 number (64 bits)"
abbrev pub name_code : NameKind → ℕ
name_code Anonymous = 0
name_code StringName = 1
name_code Number = 2

-- "0 zero; 1 successor of a; 2 max; 3 imax; 4 parameter (a = name)"
abbrev pub level_code : LevelKind → ℕ
level_code Zero = 0
level_code Succ = 1
level_code Max = 2
level_code IMax = 3
level_code Param = 4

-- "0 variable; 1 sort; 2 constant; 3 application; 4 pi and 5 lambda; 6 let; 7 projection; 8 natural; 9 string literal"
abbrev pub expr_code : ExprKind → ℕ
expr_code Var = 0
expr_code Sort = 1
expr_code Const = 2
expr_code App = 3
expr_code Pi = 4
expr_code Lambda = 5
expr_code Let = 6
expr_code Proj = 7
expr_code Nat = 8
expr_code String = 9

-- "Style: 0 default, 1 implicit, 2 strict, 3 instance."
abbrev pub style_code : BinderStyle → ℕ
style_code Default = 0
style_code Implicit = 1
style_code Strict = 2
style_code Instance = 3

-- "0 axiom, 1 quotient, 2 theorem, 3 definition, 4 opaque, 5 inductive, 6 constructor, 7 recursor"
abbrev pub declar_code : DeclarKind → ℕ
declar_code Axiom = 0
declar_code Quotient = 1
declar_code Theorem = 2
declar_code Definition = 3
declar_code Opaque = 4
declar_code Inductive = 5
declar_code Constructor = 6
declar_code Recursor = 7

-- document 02, P5: "kind (0 prefix, 1 infix, 2 postfix)"
abbrev pub notation_code : NotationKind → ℕ
notation_code Prefix = 0
notation_code Infix = 1
notation_code Postfix = 2

-- a word is read as the kind that it stands for, or is an error that holds it, above all kinds
abbrev pub Reads : {K : Type 0} → (K → ℕ) → ℕ → ℕ → Result K UnknownKind → Type 0
Reads code last word r = MatchResult r (λ kind. code kind ≡ word) (λ e. (e.0 ≡ word) × (last < word))

abbrev pub NamesKind : ℕ → Result NameKind UnknownKind → Type 0
NamesKind = Reads name_code 2

abbrev pub LevelsKind : ℕ → Result LevelKind UnknownKind → Type 0
LevelsKind = Reads level_code 4

abbrev pub ExprsKind : ℕ → Result ExprKind UnknownKind → Type 0
ExprsKind = Reads expr_code 9

abbrev pub StylesKind : ℕ → Result BinderStyle UnknownKind → Type 0
StylesKind = Reads style_code 3

abbrev pub DeclarsKind : ℕ → Result DeclarKind UnknownKind → Type 0
DeclarsKind = Reads declar_code 7

abbrev pub NotationsKind : ℕ → Result NotationKind UnknownKind → Type 0
NotationsKind = Reads notation_code 2

-- the kind that a word stands for, if it stands for one
abbrev pub Stands : {K : Type 0} → (K → ℕ) → ℕ → ℕ → Option K → Type 0
Stands code last word o = MatchOption o (last < word) (λ kind. code kind ≡ word)
