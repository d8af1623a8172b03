-- Recorded prints 17 to 33, computed by the definitions. Written by differential/compute.py.
use Rattle.std.specs.Prelude.{◌≡◌, refl}
use Rattle.utf8.specs.Quoted.{bytes}
use Rattle.lister.specs.Prints.{print_expr}
use Rattle.specimens.specs.Computing.{computing}
use Rattle.computed.specs.Areas.{numbers, source, lent, counts, done}

-- expression 0, indent 2, width 120
pub print17 :
    print_expr (source "117 118" "2 3 5 0 0 1 0 0 0 1 1 1 0 0 0 0 1 0 0 0 1 0 1 0 4 1 0 4 2 0 2 0 1 1 2 0 1 3 0 1 4 0 0 0 0 1 0") 0 2 120 (lent 26 17 18)
    ≡ done (counts 26 17 18 1 18 1) (numbers "0 0 4 1 4 4 0 0 4 1 1 1 1 0 1 0 0 3 5 5 0 0 5 1 1 1 1 0 0 6 1 1 1 1 0 0 7 3 1 3 3 0 0 10 1 1 1 1 0 1 0 0 3 4 4 0 0 11 1 1 1 1 0 1 0 0 5 5 5 0 2 1 0 1 1 0 1 1 0 0 7 6 5 1 0 12 1 1 1 1 0 1 0 0 9 7 5 1 1 0 0 11 8 6 1 0 13 1 1 1 1 0 1 0 0 13 9 6 1 0 14 1 1 1 1 0 1 0 0 15 10 6 1 0 15 1 1 1 1 0 1 0 0 17 11 6 1 1 0 0 19 12 7 1 0 16 1 1 1 1 0 1 0 0 21 13 7 1 1 0 0 25 18 12 1 4 0 0 26 18 12 1") (numbers "84 121 112 101 32 40 40 109 97 120 32 117 118 41 43 49 41") (bytes "Type ((max u v)+1)")
unfolding computing numbers source lent counts done
print17 = refl

-- expression 4, indent 2, width 119
pub print18 :
    print_expr (source "102 103 97" "3 4 0 1 0 5 0 0 0 1 1 1 2 1 0 0 0 0 1 0 0 0 1 0 1 0 1 0 2 0 0 0 2 1 0 0 0 0 1 0 2 2 0 0 0 0 1 0 2 3 0 0 0 0 1 0 3 1 2 0 0 0 2 0 3 0 3 0 0 0 3 0") 4 2 119 (lent 30 8 10)
    ≡ done (counts 30 8 10 1 10 1) (numbers "0 0 1 1 1 1 0 0 1 1 1 1 1 0 1 0 0 3 2 2 0 4 0 0 4 2 2 0 2 1 0 1 1 0 1 0 2 1 1 1 1 0 0 3 1 1 1 1 0 0 4 1 1 1 1 0 1 0 0 3 2 2 0 4 0 0 4 2 2 0 2 1 0 1 1 0 1 0 5 1 1 1 1 0 0 6 1 1 1 1 0 1 0 0 3 2 2 0 4 0 0 4 2 2 0 1 0 0 6 3 0 1 4 0 0 7 3 0 1 1 0 0 12 5 2 1 4 0 0 13 5 2 1 3 2 0 14 5 2 1 1 0 0 16 6 3 1 0 7 1 1 1 1 0 1 0 0 18 7 3 1 4 0 0 19 7 3 1 1 0 0 21 8 0 1 4 0 0 22 8 0 1 1 0 0 27 10 2 1 4 0 0 28 10 2 1 3 2 0 29 10 2 1 4 0 0 30 10 2 1") (numbers "64 102 40 64 103 64 97 41") (bytes "@f (@g @a)")
unfolding computing numbers source lent counts done
print18 = refl

-- expression 4, indent 2, width 120
pub print19 :
    print_expr (source "102 103 97" "3 4 0 1 0 5 0 0 0 1 1 1 2 1 0 0 0 0 1 0 0 0 1 0 1 0 1 0 2 0 0 0 2 1 0 0 0 0 1 0 2 2 0 0 0 0 1 0 2 3 0 0 0 0 1 0 3 1 2 0 0 0 2 0 3 0 3 0 0 0 3 0") 4 2 120 (lent 30 8 10)
    ≡ done (counts 30 8 10 1 10 1) (numbers "0 0 1 1 1 1 0 0 1 1 1 1 1 0 1 0 0 3 2 2 0 4 0 0 4 2 2 0 2 1 0 1 1 0 1 0 2 1 1 1 1 0 0 3 1 1 1 1 0 0 4 1 1 1 1 0 1 0 0 3 2 2 0 4 0 0 4 2 2 0 2 1 0 1 1 0 1 0 5 1 1 1 1 0 0 6 1 1 1 1 0 1 0 0 3 2 2 0 4 0 0 4 2 2 0 1 0 0 6 3 0 1 4 0 0 7 3 0 1 1 0 0 12 5 2 1 4 0 0 13 5 2 1 3 2 0 14 5 2 1 1 0 0 16 6 3 1 0 7 1 1 1 1 0 1 0 0 18 7 3 1 4 0 0 19 7 3 1 1 0 0 21 8 0 1 4 0 0 22 8 0 1 1 0 0 27 10 2 1 4 0 0 28 10 2 1 3 2 0 29 10 2 1 4 0 0 30 10 2 1") (numbers "64 102 40 64 103 64 97 41") (bytes "@f (@g @a)")
unfolding computing numbers source lent counts done
print19 = refl

-- expression 4, indent 2, width 119
pub print20 :
    print_expr (source "110 78 97 116 80" "3 4 0 1 0 5 0 0 0 1 1 3 4 1 0 0 0 0 1 0 0 0 1 0 1 0 1 0 2 0 0 0 2 2 0 0 0 0 1 0 2 3 0 0 0 0 1 0 0 0 0 0 0 0 1 1 3 1 2 0 0 0 2 1 4 1 0 0 3 0 3 0") 4 2 119 (lent 42 20 23)
    ≡ done (counts 42 20 23 1 23 1) (numbers "0 0 6 1 6 6 0 0 6 1 1 1 1 0 1 0 0 3 7 7 0 0 7 1 1 1 1 0 0 8 1 1 1 1 0 0 9 1 1 1 1 0 1 0 0 3 2 2 0 0 10 1 1 1 1 0 1 0 0 5 3 3 0 2 1 0 1 1 0 1 1 0 0 7 4 3 1 0 11 1 1 1 1 0 0 12 3 1 3 3 0 1 0 0 3 4 4 0 4 0 0 4 4 4 0 1 0 0 12 8 3 1 1 0 0 14 9 4 1 0 15 1 1 1 1 0 1 0 0 16 10 4 1 4 0 0 17 10 4 1 3 2 0 18 10 4 1 1 0 0 22 17 11 1 0 16 1 1 1 1 0 1 0 0 24 18 11 1 4 0 0 25 18 11 1 3 2 0 26 18 11 1 2 1 0 1 1 0 1 1 0 0 28 19 11 1 0 17 1 1 1 1 0 0 18 1 1 1 1 0 1 0 0 3 2 2 0 4 0 0 4 2 2 0 2 1 0 1 1 0 1 0 19 1 1 1 1 0 4 0 0 2 1 1 0 1 0 0 4 2 0 1 4 0 0 5 2 0 1 1 0 0 10 4 2 1 4 0 0 11 4 2 1 3 2 0 12 4 2 1 1 0 0 41 23 11 1 4 0 0 42 23 11 1") (numbers "102 111 114 97 108 108 32 40 110 32 58 64 78 97 116 41 44 64 80 110") (bytes "forall (n : @Nat), @P n")
unfolding computing numbers source lent counts done
print20 = refl

-- expression 4, indent 2, width 120
pub print21 :
    print_expr (source "110 78 97 116 80" "3 4 0 1 0 5 0 0 0 1 1 3 4 1 0 0 0 0 1 0 0 0 1 0 1 0 1 0 2 0 0 0 2 2 0 0 0 0 1 0 2 3 0 0 0 0 1 0 0 0 0 0 0 0 1 1 3 1 2 0 0 0 2 1 4 1 0 0 3 0 3 0") 4 2 120 (lent 42 20 23)
    ≡ done (counts 42 20 23 1 23 1) (numbers "0 0 6 1 6 6 0 0 6 1 1 1 1 0 1 0 0 3 7 7 0 0 7 1 1 1 1 0 0 8 1 1 1 1 0 0 9 1 1 1 1 0 1 0 0 3 2 2 0 0 10 1 1 1 1 0 1 0 0 5 3 3 0 2 1 0 1 1 0 1 1 0 0 7 4 3 1 0 11 1 1 1 1 0 0 12 3 1 3 3 0 1 0 0 3 4 4 0 4 0 0 4 4 4 0 1 0 0 12 8 3 1 1 0 0 14 9 4 1 0 15 1 1 1 1 0 1 0 0 16 10 4 1 4 0 0 17 10 4 1 3 2 0 18 10 4 1 1 0 0 22 17 11 1 0 16 1 1 1 1 0 1 0 0 24 18 11 1 4 0 0 25 18 11 1 3 2 0 26 18 11 1 2 1 0 1 1 0 1 1 0 0 28 19 11 1 0 17 1 1 1 1 0 0 18 1 1 1 1 0 1 0 0 3 2 2 0 4 0 0 4 2 2 0 2 1 0 1 1 0 1 0 19 1 1 1 1 0 4 0 0 2 1 1 0 1 0 0 4 2 0 1 4 0 0 5 2 0 1 1 0 0 10 4 2 1 4 0 0 11 4 2 1 3 2 0 12 4 2 1 1 0 0 41 23 11 1 4 0 0 42 23 11 1") (numbers "102 111 114 97 108 108 32 40 110 32 58 64 78 97 116 41 44 64 80 110") (bytes "forall (n : @Nat), @P n")
unfolding computing numbers source lent counts done
print21 = refl

-- expression 1, indent 2, width 0
pub print22 :
    print_expr (source "110 78 97 116" "2 3 0 1 0 2 0 0 0 1 1 3 0 0 0 0 1 0 0 0 1 0 1 0 0 0 2 2 0 0 0 0 1 0 4 1 0 0 0 0 2 0") 1 2 0 (lent 17 12 13)
    ≡ done (counts 17 12 13 2 8 3) (numbers "0 0 1 1 1 1 0 0 1 3 1 3 3 0 1 0 0 3 4 4 0 4 0 0 4 4 4 0 3 2 0 5 4 4 0 0 4 1 1 1 1 0 1 0 0 7 5 5 0 0 5 3 1 3 3 0 1 0 0 9 8 8 0 2 1 0 1 1 0 1 1 0 0 11 9 8 1 4 0 0 12 9 8 1 0 8 1 1 1 1 0 0 9 3 1 3 3 0 1 0 0 3 4 4 0 1 0 0 16 13 8 1 4 0 0 17 13 8 1") (numbers "64 78 97 116 32 226 134 146 64 78 97 116") (bytes "@Nat →\n@Nat")
unfolding computing numbers source lent counts done
print22 = refl

-- expression 1, indent 2, width 13
pub print23 :
    print_expr (source "110 78 97 116" "2 3 0 1 0 2 0 0 0 1 1 3 0 0 0 0 1 0 0 0 1 0 1 0 0 0 2 2 0 0 0 0 1 0 4 1 0 0 0 0 2 0") 1 2 13 (lent 17 12 13)
    ≡ done (counts 17 12 13 1 13 1) (numbers "0 0 1 1 1 1 0 0 1 3 1 3 3 0 1 0 0 3 4 4 0 4 0 0 4 4 4 0 3 2 0 5 4 4 0 0 4 1 1 1 1 0 1 0 0 7 5 5 0 0 5 3 1 3 3 0 1 0 0 9 8 8 0 2 1 0 1 1 0 1 1 0 0 11 9 8 1 4 0 0 12 9 8 1 0 8 1 1 1 1 0 0 9 3 1 3 3 0 1 0 0 3 4 4 0 1 0 0 16 13 8 1 4 0 0 17 13 8 1") (numbers "64 78 97 116 32 226 134 146 64 78 97 116") (bytes "@Nat → @Nat")
unfolding computing numbers source lent counts done
print23 = refl

-- expression 1, indent 2, width 120
pub print24 :
    print_expr (source "110 78 97 116" "2 3 0 1 0 2 0 0 0 1 1 3 0 0 0 0 1 0 0 0 1 0 1 0 0 0 2 2 0 0 0 0 1 0 4 1 0 0 0 0 2 0") 1 2 120 (lent 17 12 13)
    ≡ done (counts 17 12 13 1 13 1) (numbers "0 0 1 1 1 1 0 0 1 3 1 3 3 0 1 0 0 3 4 4 0 4 0 0 4 4 4 0 3 2 0 5 4 4 0 0 4 1 1 1 1 0 1 0 0 7 5 5 0 0 5 3 1 3 3 0 1 0 0 9 8 8 0 2 1 0 1 1 0 1 1 0 0 11 9 8 1 4 0 0 12 9 8 1 0 8 1 1 1 1 0 0 9 3 1 3 3 0 1 0 0 3 4 4 0 1 0 0 16 13 8 1 4 0 0 17 13 8 1") (numbers "64 78 97 116 32 226 134 146 64 78 97 116") (bytes "@Nat → @Nat")
unfolding computing numbers source lent counts done
print24 = refl

-- expression 1, indent 2, width 11
pub print25 :
    print_expr (source "110 78 97 116" "2 3 0 1 0 2 0 0 0 1 1 3 0 0 0 0 1 0 0 0 1 0 1 0 0 0 2 2 0 0 0 0 1 0 4 1 0 0 0 0 2 0") 1 2 11 (lent 17 12 13)
    ≡ done (counts 17 12 13 2 8 3) (numbers "0 0 1 1 1 1 0 0 1 3 1 3 3 0 1 0 0 3 4 4 0 4 0 0 4 4 4 0 3 2 0 5 4 4 0 0 4 1 1 1 1 0 1 0 0 7 5 5 0 0 5 3 1 3 3 0 1 0 0 9 8 8 0 2 1 0 1 1 0 1 1 0 0 11 9 8 1 4 0 0 12 9 8 1 0 8 1 1 1 1 0 0 9 3 1 3 3 0 1 0 0 3 4 4 0 1 0 0 16 13 8 1 4 0 0 17 13 8 1") (numbers "64 78 97 116 32 226 134 146 64 78 97 116") (bytes "@Nat →\n@Nat")
unfolding computing numbers source lent counts done
print25 = refl

-- expression 1, indent 2, width 12
pub print26 :
    print_expr (source "110 78 97 116" "2 3 0 1 0 2 0 0 0 1 1 3 0 0 0 0 1 0 0 0 1 0 1 0 0 0 2 2 0 0 0 0 1 0 4 1 0 0 0 0 2 0") 1 2 12 (lent 17 12 13)
    ≡ done (counts 17 12 13 2 8 3) (numbers "0 0 1 1 1 1 0 0 1 3 1 3 3 0 1 0 0 3 4 4 0 4 0 0 4 4 4 0 3 2 0 5 4 4 0 0 4 1 1 1 1 0 1 0 0 7 5 5 0 0 5 3 1 3 3 0 1 0 0 9 8 8 0 2 1 0 1 1 0 1 1 0 0 11 9 8 1 4 0 0 12 9 8 1 0 8 1 1 1 1 0 0 9 3 1 3 3 0 1 0 0 3 4 4 0 1 0 0 16 13 8 1 4 0 0 17 13 8 1") (numbers "64 78 97 116 32 226 134 146 64 78 97 116") (bytes "@Nat →\n@Nat")
unfolding computing numbers source lent counts done
print26 = refl

-- expression 1, indent 2, width 120
pub print27 :
    print_expr (source "110 78 97 116" "2 3 0 1 0 2 0 0 0 1 1 3 0 0 0 0 1 0 0 0 1 0 1 0 0 0 2 2 0 0 0 0 1 0 4 1 0 0 0 0 2 0") 1 2 120 (lent 17 12 13)
    ≡ done (counts 17 12 13 1 13 1) (numbers "0 0 1 1 1 1 0 0 1 3 1 3 3 0 1 0 0 3 4 4 0 4 0 0 4 4 4 0 3 2 0 5 4 4 0 0 4 1 1 1 1 0 1 0 0 7 5 5 0 0 5 3 1 3 3 0 1 0 0 9 8 8 0 2 1 0 1 1 0 1 1 0 0 11 9 8 1 4 0 0 12 9 8 1 0 8 1 1 1 1 0 0 9 3 1 3 3 0 1 0 0 3 4 4 0 1 0 0 16 13 8 1 4 0 0 17 13 8 1") (numbers "64 78 97 116 32 226 134 146 64 78 97 116") (bytes "@Nat → @Nat")
unfolding computing numbers source lent counts done
print27 = refl

-- expression 0, indent 2, width 119
pub print28 :
    print_expr (source "206 177" "1 2 0 1 0 1 0 0 0 2 0 0 0 0 1 0 0 0 0 0 2 1 0 0 0 0 1 0") 0 2 119 (lent 4 3 3)
    ≡ done (counts 4 3 3 1 3 1) (numbers "0 0 1 1 1 1 0 0 1 2 1 2 2 0 1 0 0 3 3 3 0 4 0 0 4 3 3 0") (numbers "64 206 177") (bytes "@α")
unfolding computing numbers source lent counts done
print28 = refl

-- expression 0, indent 2, width 120
pub print29 :
    print_expr (source "206 177" "1 2 0 1 0 1 0 0 0 2 0 0 0 0 1 0 0 0 0 0 2 1 0 0 0 0 1 0") 0 2 120 (lent 4 3 3)
    ≡ done (counts 4 3 3 1 3 1) (numbers "0 0 1 1 1 1 0 0 1 2 1 2 2 0 1 0 0 3 3 3 0 4 0 0 4 3 3 0") (numbers "64 206 177") (bytes "@α")
unfolding computing numbers source lent counts done
print29 = refl

-- expression 0, indent 2, width 119
pub print30 :
    print_expr (source "120 226 130 136" "1 2 0 1 0 1 0 0 0 4 0 0 0 0 1 0 0 0 0 0 2 1 0 0 0 0 1 0") 0 2 119 (lent 4 5 5)
    ≡ done (counts 4 5 5 1 5 1) (numbers "0 0 1 1 1 1 0 0 1 4 1 4 4 0 1 0 0 3 5 5 0 4 0 0 4 5 5 0") (numbers "64 120 226 130 136") (bytes "@x₈")
unfolding computing numbers source lent counts done
print30 = refl

-- expression 0, indent 2, width 120
pub print31 :
    print_expr (source "120 226 130 136" "1 2 0 1 0 1 0 0 0 4 0 0 0 0 1 0 0 0 0 0 2 1 0 0 0 0 1 0") 0 2 120 (lent 4 5 5)
    ≡ done (counts 4 5 5 1 5 1) (numbers "0 0 1 1 1 1 0 0 1 4 1 4 4 0 1 0 0 3 5 5 0 4 0 0 4 5 5 0") (numbers "64 120 226 130 136") (bytes "@x₈")
unfolding computing numbers source lent counts done
print31 = refl

-- expression 0, indent 2, width 0
pub print32 :
    print_expr (source "207 137" "1 2 0 1 0 1 0 0 0 2 0 0 0 0 1 0 0 0 0 0 2 1 0 0 0 0 1 0") 0 2 0 (lent 4 7 7)
    ≡ done (counts 4 7 7 1 7 1) (numbers "0 0 1 1 1 1 0 0 1 6 1 6 6 0 1 0 0 3 7 7 0 4 0 0 4 7 7 0") (numbers "64 194 171 207 137 194 187") (bytes "@«ω»")
unfolding computing numbers source lent counts done
print32 = refl

-- expression 0, indent 2, width 120
pub print33 :
    print_expr (source "207 137" "1 2 0 1 0 1 0 0 0 2 0 0 0 0 1 0 0 0 0 0 2 1 0 0 0 0 1 0") 0 2 120 (lent 4 7 7)
    ≡ done (counts 4 7 7 1 7 1) (numbers "0 0 1 1 1 1 0 0 1 6 1 6 6 0 1 0 0 3 7 7 0 4 0 0 4 7 7 0") (numbers "64 194 171 207 137 194 187") (bytes "@«ω»")
unfolding computing numbers source lent counts done
print33 = refl
