-- Recorded prints 34 to 50, computed by the definitions. Written by differential/compute.py.
use Rattle.std.specs.Prelude.{◌≡◌, refl}
use Rattle.utf8.specs.Quoted.{bytes}
use Rattle.lister.specs.Prints.{print_expr}
use Rattle.specimens.specs.Computing.{computing}
use Rattle.computed.specs.Areas.{numbers, source, lent, counts, done}

-- expression 0, indent 2, width 0
pub print34 :
    print_expr (source "120 226 130 137" "1 2 0 1 0 1 0 0 0 4 0 0 0 0 1 0 0 0 0 0 2 1 0 0 0 0 1 0") 0 2 0 (lent 4 9 9)
    ≡ done (counts 4 9 9 1 9 1) (numbers "0 0 1 1 1 1 0 0 1 8 1 8 8 0 1 0 0 3 9 9 0 4 0 0 4 9 9 0") (numbers "64 194 171 120 226 130 137 194 187") (bytes "@«x₉»")
unfolding computing numbers source lent counts done
print34 = refl

-- expression 0, indent 2, width 120
pub print35 :
    print_expr (source "120 226 130 137" "1 2 0 1 0 1 0 0 0 4 0 0 0 0 1 0 0 0 0 0 2 1 0 0 0 0 1 0") 0 2 120 (lent 4 9 9)
    ≡ done (counts 4 9 9 1 9 1) (numbers "0 0 1 1 1 1 0 0 1 8 1 8 8 0 1 0 0 3 9 9 0 4 0 0 4 9 9 0") (numbers "64 194 171 120 226 130 137 194 187") (bytes "@«x₉»")
unfolding computing numbers source lent counts done
print35 = refl

-- expression 0, indent 2, width 0
pub print36 :
    print_expr (source "206 187" "1 2 0 1 0 1 0 0 0 2 0 0 0 0 1 0 0 0 0 0 2 1 0 0 0 0 1 0") 0 2 0 (lent 4 7 7)
    ≡ done (counts 4 7 7 1 7 1) (numbers "0 0 1 1 1 1 0 0 1 6 1 6 6 0 1 0 0 3 7 7 0 4 0 0 4 7 7 0") (numbers "64 194 171 206 187 194 187") (bytes "@«λ»")
unfolding computing numbers source lent counts done
print36 = refl

-- expression 0, indent 2, width 119
pub print37 :
    print_expr (source "206 187" "1 2 0 1 0 1 0 0 0 2 0 0 0 0 1 0 0 0 0 0 2 1 0 0 0 0 1 0") 0 2 119 (lent 4 7 7)
    ≡ done (counts 4 7 7 1 7 1) (numbers "0 0 1 1 1 1 0 0 1 6 1 6 6 0 1 0 0 3 7 7 0 4 0 0 4 7 7 0") (numbers "64 194 171 206 187 194 187") (bytes "@«λ»")
unfolding computing numbers source lent counts done
print37 = refl

-- expression 0, indent 2, width 0
pub print38 :
    print_expr (source "97 98 32 99" "2 3 0 1 0 1 0 0 0 1 1 3 0 0 0 0 1 0 0 0 1 1 1 0 0 0 2 2 0 0 0 0 1 0") 0 2 0 (lent 4 10 10)
    ≡ done (counts 4 10 10 1 10 1) (numbers "0 0 1 1 1 1 0 0 1 9 1 9 9 0 1 0 0 3 10 10 0 4 0 0 4 10 10 0") (numbers "64 97 46 194 171 98 32 99 194 187") (bytes "@a.«b c»")
unfolding computing numbers source lent counts done
print38 = refl

-- expression 0, indent 2, width 119
pub print39 :
    print_expr (source "97 98 32 99" "2 3 0 1 0 1 0 0 0 1 1 3 0 0 0 0 1 0 0 0 1 1 1 0 0 0 2 2 0 0 0 0 1 0") 0 2 119 (lent 4 10 10)
    ≡ done (counts 4 10 10 1 10 1) (numbers "0 0 1 1 1 1 0 0 1 9 1 9 9 0 1 0 0 3 10 10 0 4 0 0 4 10 10 0") (numbers "64 97 46 194 171 98 32 99 194 187") (bytes "@a.«b c»")
unfolding computing numbers source lent counts done
print39 = refl

-- expression 0, indent 2, width 0
pub print40 :
    print_expr (source "" "0 1 0 1 0 1 0 0 0 0 0 0 0 0 2 0 0 0 0 0 1 0") 0 2 0 (lent 4 5 5)
    ≡ done (counts 4 5 5 1 5 1) (numbers "0 0 1 1 1 1 0 0 1 4 1 4 4 0 1 0 0 3 5 5 0 4 0 0 4 5 5 0") (numbers "64 194 171 194 187") (bytes "@«»")
unfolding computing numbers source lent counts done
print40 = refl

-- expression 0, indent 2, width 119
pub print41 :
    print_expr (source "" "0 1 0 1 0 1 0 0 0 0 0 0 0 0 2 0 0 0 0 0 1 0") 0 2 119 (lent 4 5 5)
    ≡ done (counts 4 5 5 1 5 1) (numbers "0 0 1 1 1 1 0 0 1 4 1 4 4 0 1 0 0 3 5 5 0 4 0 0 4 5 5 0") (numbers "64 194 171 194 187") (bytes "@«»")
unfolding computing numbers source lent counts done
print41 = refl

-- expression 0, indent 2, width 0
pub print42 :
    print_expr (source "97 32 98 99" "2 3 0 1 0 1 0 0 0 3 3 1 0 0 0 0 1 0 0 0 1 1 1 0 0 0 2 2 0 0 0 0 1 0") 0 2 0 (lent 4 10 10)
    ≡ done (counts 4 10 10 1 10 1) (numbers "0 0 1 1 1 1 0 0 1 9 1 9 9 0 1 0 0 3 10 10 0 4 0 0 4 10 10 0") (numbers "64 194 171 97 32 98 194 187 46 99") (bytes "@«a b».c")
unfolding computing numbers source lent counts done
print42 = refl

-- expression 0, indent 2, width 119
pub print43 :
    print_expr (source "97 32 98 99" "2 3 0 1 0 1 0 0 0 3 3 1 0 0 0 0 1 0 0 0 1 1 1 0 0 0 2 2 0 0 0 0 1 0") 0 2 119 (lent 4 10 10)
    ≡ done (counts 4 10 10 1 10 1) (numbers "0 0 1 1 1 1 0 0 1 9 1 9 9 0 1 0 0 3 10 10 0 4 0 0 4 10 10 0") (numbers "64 194 171 97 32 98 194 187 46 99") (bytes "@«a b».c")
unfolding computing numbers source lent counts done
print43 = refl

-- expression 0, indent 2, width 120
pub print44 :
    print_expr (source "97 32 98 99" "2 3 0 1 0 1 0 0 0 3 3 1 0 0 0 0 1 0 0 0 1 1 1 0 0 0 2 2 0 0 0 0 1 0") 0 2 120 (lent 4 10 10)
    ≡ done (counts 4 10 10 1 10 1) (numbers "0 0 1 1 1 1 0 0 1 9 1 9 9 0 1 0 0 3 10 10 0 4 0 0 4 10 10 0") (numbers "64 194 171 97 32 98 194 187 46 99") (bytes "@«a b».c")
unfolding computing numbers source lent counts done
print44 = refl

-- expression 0, indent 2, width 119
pub print45 :
    print_expr (source "97 32 98" "1 3 0 1 0 1 0 0 0 3 0 0 0 0 1 0 0 0 2 1 5 0 0 0 2 2 0 0 0 0 1 0") 0 2 119 (lent 4 10 10)
    ≡ done (counts 4 10 10 1 10 1) (numbers "0 0 1 1 1 1 0 0 1 9 1 9 9 0 1 0 0 3 10 10 0 4 0 0 4 10 10 0") (numbers "64 194 171 97 32 98 194 187 46 53") (bytes "@«a b».5")
unfolding computing numbers source lent counts done
print45 = refl

-- expression 0, indent 2, width 120
pub print46 :
    print_expr (source "97 32 98" "1 3 0 1 0 1 0 0 0 3 0 0 0 0 1 0 0 0 2 1 5 0 0 0 2 2 0 0 0 0 1 0") 0 2 120 (lent 4 10 10)
    ≡ done (counts 4 10 10 1 10 1) (numbers "0 0 1 1 1 1 0 0 1 9 1 9 9 0 1 0 0 3 10 10 0 4 0 0 4 10 10 0") (numbers "64 194 171 97 32 98 194 187 46 53") (bytes "@«a b».5")
unfolding computing numbers source lent counts done
print46 = refl

-- expression 0, indent 2, width 119
pub print47 :
    print_expr (source "97 98" "3 4 0 1 0 1 0 0 0 1 1 0 1 1 0 0 0 0 1 0 0 0 1 1 1 0 1 2 2 0 0 0 2 3 0 0 0 0 1 0") 0 2 119 (lent 4 5 5)
    ≡ done (counts 4 5 5 1 5 1) (numbers "0 0 1 1 1 1 0 0 1 4 1 4 4 0 1 0 0 3 5 5 0 4 0 0 4 5 5 0") (numbers "64 97 46 46 98") (bytes "@a..b")
unfolding computing numbers source lent counts done
print47 = refl

-- expression 0, indent 2, width 120
pub print48 :
    print_expr (source "97 98" "3 4 0 1 0 1 0 0 0 1 1 0 1 1 0 0 0 0 1 0 0 0 1 1 1 0 1 2 2 0 0 0 2 3 0 0 0 0 1 0") 0 2 120 (lent 4 5 5)
    ≡ done (counts 4 5 5 1 5 1) (numbers "0 0 1 1 1 1 0 0 1 4 1 4 4 0 1 0 0 3 5 5 0 4 0 0 4 5 5 0") (numbers "64 97 46 46 98") (bytes "@a..b")
unfolding computing numbers source lent counts done
print48 = refl

-- expression 0, indent 2, width 0
pub print49 :
    print_expr (source "98 32 99" "2 3 0 1 0 1 0 0 0 0 0 3 0 0 0 0 1 0 0 0 1 1 1 0 0 0 2 2 0 0 0 0 1 0") 0 2 0 (lent 4 8 8)
    ≡ done (counts 4 8 8 1 8 1) (numbers "0 0 1 1 1 1 0 0 1 7 1 7 7 0 1 0 0 3 8 8 0 4 0 0 4 8 8 0") (numbers "64 194 171 98 32 99 194 187") (bytes "@«b c»")
unfolding computing numbers source lent counts done
print49 = refl

-- expression 0, indent 2, width 120
pub print50 :
    print_expr (source "98 32 99" "2 3 0 1 0 1 0 0 0 0 0 3 0 0 0 0 1 0 0 0 1 1 1 0 0 0 2 2 0 0 0 0 1 0") 0 2 120 (lent 4 8 8)
    ≡ done (counts 4 8 8 1 8 1) (numbers "0 0 1 1 1 1 0 0 1 7 1 7 7 0 1 0 0 3 8 8 0 4 0 0 4 8 8 0") (numbers "64 194 171 98 32 99 194 187") (bytes "@«b c»")
unfolding computing numbers source lent counts done
print50 = refl
