-- 01, Pool, and document 02, P5: the kinds that the rows of each table go by.
use Rattle.std.specs.Prelude.{ℕ, zero, suc}

-- "0 anonymous; 1 string (low = string row); 2 number (64 bits)"
pub data NameKind : Type 0 where
  anonymousᵏ stringᵏ numberᵏ noNameᵏ : NameKind

unfoldable pub name_kind : ℕ → NameKind
name_kind zero = anonymousᵏ
name_kind (suc zero) = stringᵏ
name_kind (suc (suc zero)) = numberᵏ
name_kind (suc (suc (suc k))) = noNameᵏ

-- "0 zero; 1 successor of a; 2 max; 3 imax; 4 parameter (a = name)"
pub data LevelKind : Type 0 where
  zeroᵏ succᵏ maxᵏ imaxᵏ paramᵏ noLevelᵏ : LevelKind

unfoldable pub level_kind : ℕ → LevelKind
level_kind zero = zeroᵏ
level_kind (suc zero) = succᵏ
level_kind (suc (suc zero)) = maxᵏ
level_kind (suc (suc (suc zero))) = imaxᵏ
level_kind (suc (suc (suc (suc zero)))) = paramᵏ
level_kind (suc (suc (suc (suc (suc k))))) = noLevelᵏ

-- "0 variable; 1 sort; 2 constant; 3 application; 4 pi and 5 lambda; 6 let; 7 projection; 8 natural; 9 string literal"
pub data ExprKind : Type 0 where
  varᵏ sortᵏ constᵏ appᵏ piᵏ lamᵏ letᵏ projᵏ natᵏ strᵏ noExprᵏ : ExprKind

unfoldable pub expr_kind : ℕ → ExprKind
expr_kind zero = varᵏ
expr_kind (suc zero) = sortᵏ
expr_kind (suc (suc zero)) = constᵏ
expr_kind (suc (suc (suc zero))) = appᵏ
expr_kind (suc (suc (suc (suc zero)))) = piᵏ
expr_kind (suc (suc (suc (suc (suc zero))))) = lamᵏ
expr_kind (suc (suc (suc (suc (suc (suc zero)))))) = letᵏ
expr_kind (suc (suc (suc (suc (suc (suc (suc zero))))))) = projᵏ
expr_kind (suc (suc (suc (suc (suc (suc (suc (suc zero)))))))) = natᵏ
expr_kind (suc (suc (suc (suc (suc (suc (suc (suc (suc zero))))))))) = strᵏ
expr_kind (suc (suc (suc (suc (suc (suc (suc (suc (suc (suc k)))))))))) = noExprᵏ

-- document 02, P5: "kind (0 prefix, 1 infix, 2 postfix)"
pub data NotationKind : Type 0 where
  prefixᵏ infixᵏ postfixᵏ noNotationᵏ : NotationKind

unfoldable pub notation_kind : ℕ → NotationKind
notation_kind zero = prefixᵏ
notation_kind (suc zero) = infixᵏ
notation_kind (suc (suc zero)) = postfixᵏ
notation_kind (suc (suc (suc k))) = noNotationᵏ
