-- Recorded prints 51 to 67, computed by the definitions. Written by differential/compute.py.
use Rattle.std.specs.Prelude.{◌≡◌, refl}
use Rattle.utf8.specs.Quoted.{bytes}
use Rattle.lister.specs.Prints.{print_expr, print_declar}
use Rattle.specimens.specs.Computing.{computing}
use Rattle.computed.specs.Areas.{numbers, source, lent, counts, done}

-- expression 0, indent 2, width 0
pub print51 :
    print_expr (source "95 64" "1 2 0 1 0 1 0 0 0 2 0 0 0 0 1 0 0 0 0 0 2 1 0 0 0 0 1 0") 0 2 0 (lent 4 3 3)
    ≡ done (counts 4 3 3 1 3 1) (numbers "0 0 1 1 1 1 0 0 1 2 1 2 2 0 1 0 0 3 3 3 0 4 0 0 4 3 3 0") (numbers "64 95 64") (bytes "@_@")
unfolding computing numbers source lent counts done
print51 = refl

-- expression 0, indent 2, width 120
pub print52 :
    print_expr (source "95 64" "1 2 0 1 0 1 0 0 0 2 0 0 0 0 1 0 0 0 0 0 2 1 0 0 0 0 1 0") 0 2 120 (lent 4 3 3)
    ≡ done (counts 4 3 3 1 3 1) (numbers "0 0 1 1 1 1 0 0 1 2 1 2 2 0 1 0 0 3 3 3 0 4 0 0 4 3 3 0") (numbers "64 95 64") (bytes "@_@")
unfolding computing numbers source lent counts done
print52 = refl

-- declaration 0, indent 2, width 0
pub print53 :
    print_declar (source "107 117 97" "3 4 1 1 1 4 1 0 0 1 1 1 2 1 0 0 0 0 1 0 0 0 1 0 1 0 1 0 2 0 4 2 0 0 1 0 1 0 0 0 0 0 1 0 4 3 0 0 0 0 2 0 0 0 0 0 0 0 1 1 5 3 0 0 2 0 2 0 3 1 0 1 3") 0 2 0 (lent 65 33 44)
    ≡ done (counts 65 33 44 4 14 8) (numbers "0 0 3 1 3 3 0 0 3 1 1 1 1 0 1 0 0 3 4 4 0 0 4 1 1 1 1 0 0 5 1 1 1 1 0 0 6 1 1 1 1 0 0 7 1 1 1 1 0 1 0 0 3 2 2 0 0 8 1 1 1 1 0 1 0 0 5 3 3 0 4 0 0 6 3 3 0 1 0 0 8 4 4 0 1 0 0 10 5 5 0 1 0 0 14 9 9 0 0 9 1 1 1 1 0 1 0 0 16 10 10 0 0 10 1 1 1 1 0 0 11 1 1 1 1 0 0 12 1 1 1 1 0 1 0 0 3 2 2 0 0 13 1 1 1 1 0 1 0 0 5 3 3 0 2 1 0 1 1 0 1 1 0 0 7 4 3 1 0 14 4 1 4 4 0 0 18 1 1 1 1 0 1 0 0 3 5 5 0 0 19 1 1 1 1 0 1 0 0 5 6 6 0 4 0 0 6 6 6 0 1 0 0 14 10 3 1 1 0 0 16 11 4 1 0 20 1 1 1 1 0 1 0 0 18 12 4 1 4 0 0 19 12 4 1 3 2 0 20 12 4 1 4 0 0 21 12 4 1 3 2 0 22 12 4 1 0 21 1 1 1 1 0 1 0 0 24 13 4 1 0 22 1 1 1 1 0 1 0 0 26 14 4 1 2 1 0 1 1 0 1 0 23 4 1 4 4 0 0 27 1 1 1 1 0 1 0 0 3 5 5 0 0 28 1 1 1 1 0 1 0 0 5 6 6 0 4 0 0 6 6 6 0 1 0 0 8 7 0 1 3 2 0 9 7 0 1 1 0 0 36 21 4 1 0 29 1 1 1 1 0 1 0 0 38 22 4 1 0 30 2 1 2 2 0 1 0 0 40 24 4 1 4 0 0 41 24 4 1 1 0 0 58 34 14 1 2 1 0 1 1 0 1 0 32 1 1 1 1 0 4 0 0 2 1 1 0 1 0 0 4 2 0 1 3 2 0 5 2 0 1 1 0 0 64 36 14 1 4 0 0 65 36 14 1") (numbers "100 101 102 32 107 46 123 117 125 32 40 97 32 58 83 111 114 116 32 117 41 32 58 83 111 114 116 32 117 32 58 61 97") (bytes "def k.{u} (a :\n    Sort u) :\n  Sort u :=\n  a")
unfolding computing numbers source lent counts done
print53 = refl

-- declaration 0, indent 2, width 119
pub print54 :
    print_declar (source "107 117 97" "3 4 1 1 1 4 1 0 0 1 1 1 2 1 0 0 0 0 1 0 0 0 1 0 1 0 1 0 2 0 4 2 0 0 1 0 1 0 0 0 0 0 1 0 4 3 0 0 0 0 2 0 0 0 0 0 0 0 1 1 5 3 0 0 2 0 2 0 3 1 0 1 3") 0 2 119 (lent 65 33 36)
    ≡ done (counts 65 33 36 1 36 1) (numbers "0 0 3 1 3 3 0 0 3 1 1 1 1 0 1 0 0 3 4 4 0 0 4 1 1 1 1 0 0 5 1 1 1 1 0 0 6 1 1 1 1 0 0 7 1 1 1 1 0 1 0 0 3 2 2 0 0 8 1 1 1 1 0 1 0 0 5 3 3 0 4 0 0 6 3 3 0 1 0 0 8 4 4 0 1 0 0 10 5 5 0 1 0 0 14 9 9 0 0 9 1 1 1 1 0 1 0 0 16 10 10 0 0 10 1 1 1 1 0 0 11 1 1 1 1 0 0 12 1 1 1 1 0 1 0 0 3 2 2 0 0 13 1 1 1 1 0 1 0 0 5 3 3 0 2 1 0 1 1 0 1 1 0 0 7 4 3 1 0 14 4 1 4 4 0 0 18 1 1 1 1 0 1 0 0 3 5 5 0 0 19 1 1 1 1 0 1 0 0 5 6 6 0 4 0 0 6 6 6 0 1 0 0 14 10 3 1 1 0 0 16 11 4 1 0 20 1 1 1 1 0 1 0 0 18 12 4 1 4 0 0 19 12 4 1 3 2 0 20 12 4 1 4 0 0 21 12 4 1 3 2 0 22 12 4 1 0 21 1 1 1 1 0 1 0 0 24 13 4 1 0 22 1 1 1 1 0 1 0 0 26 14 4 1 2 1 0 1 1 0 1 0 23 4 1 4 4 0 0 27 1 1 1 1 0 1 0 0 3 5 5 0 0 28 1 1 1 1 0 1 0 0 5 6 6 0 4 0 0 6 6 6 0 1 0 0 8 7 0 1 3 2 0 9 7 0 1 1 0 0 36 21 4 1 0 29 1 1 1 1 0 1 0 0 38 22 4 1 0 30 2 1 2 2 0 1 0 0 40 24 4 1 4 0 0 41 24 4 1 1 0 0 58 34 14 1 2 1 0 1 1 0 1 0 32 1 1 1 1 0 4 0 0 2 1 1 0 1 0 0 4 2 0 1 3 2 0 5 2 0 1 1 0 0 64 36 14 1 4 0 0 65 36 14 1") (numbers "100 101 102 32 107 46 123 117 125 32 40 97 32 58 83 111 114 116 32 117 41 32 58 83 111 114 116 32 117 32 58 61 97") (bytes "def k.{u} (a : Sort u) : Sort u := a")
unfolding computing numbers source lent counts done
print54 = refl

-- declaration 0, indent 2, width 0
pub print55 :
    print_declar (source "107 117 97 99" "4 5 1 2 1 3 1 0 0 1 1 1 2 1 3 1 0 0 0 0 1 0 0 0 1 0 1 0 1 0 2 0 1 0 3 0 4 2 0 0 1 1 0 0 1 0 0 0 0 0 1 0 4 3 0 0 0 0 2 0 2 4 1 0 0 0 1 0 3 1 0 1 2") 0 2 0 (lent 56 32 41)
    ≡ done (counts 56 32 41 4 12 6) (numbers "0 0 3 1 3 3 0 0 3 1 1 1 1 0 1 0 0 3 4 4 0 0 4 1 1 1 1 0 0 5 1 1 1 1 0 0 6 1 1 1 1 0 0 7 1 1 1 1 0 1 0 0 3 2 2 0 0 8 1 1 1 1 0 1 0 0 5 3 3 0 4 0 0 6 3 3 0 1 0 0 8 4 4 0 1 0 0 10 5 5 0 1 0 0 14 9 9 0 0 9 1 1 1 1 0 1 0 0 16 10 10 0 0 10 1 1 1 1 0 2 1 0 1 1 0 1 0 11 4 1 4 4 0 0 15 1 1 1 1 0 1 0 0 3 5 5 0 0 16 1 1 1 1 0 1 0 0 5 6 6 0 4 0 0 6 6 6 0 3 2 0 7 6 6 0 0 17 1 1 1 1 0 1 0 0 9 7 7 0 0 18 3 1 3 3 0 1 0 0 11 10 10 0 2 1 0 1 1 0 1 1 0 0 13 11 10 1 4 0 0 14 11 10 1 0 21 4 1 4 4 0 0 25 1 1 1 1 0 1 0 0 3 5 5 0 0 26 1 1 1 1 0 1 0 0 5 6 6 0 1 0 0 20 17 10 1 4 0 0 21 17 10 1 1 0 0 23 18 0 1 3 2 0 24 18 0 1 1 0 0 26 19 1 1 0 27 1 1 1 1 0 1 0 0 28 20 1 1 0 28 2 1 2 2 0 1 0 0 30 22 1 1 1 0 0 47 32 11 1 2 1 0 1 1 0 1 0 30 1 1 1 1 0 0 31 1 1 1 1 0 1 0 0 3 2 2 0 4 0 0 4 2 2 0 1 0 0 6 3 0 1 3 2 0 7 3 0 1 1 0 0 55 35 11 1 4 0 0 56 35 11 1") (numbers "100 101 102 32 107 46 123 117 125 32 58 83 111 114 116 32 117 32 226 134 146 83 111 114 116 32 117 32 58 61 64 99") (bytes "def k.{u} :\n  Sort u →\n  Sort u :=\n  @c")
unfolding computing numbers source lent counts done
print55 = refl

-- declaration 0, indent 2, width 119
pub print56 :
    print_declar (source "107 117 97 99" "4 5 1 2 1 3 1 0 0 1 1 1 2 1 3 1 0 0 0 0 1 0 0 0 1 0 1 0 1 0 2 0 1 0 3 0 4 2 0 0 1 1 0 0 1 0 0 0 0 0 1 0 4 3 0 0 0 0 2 0 2 4 1 0 0 0 1 0 3 1 0 1 2") 0 2 119 (lent 56 32 35)
    ≡ done (counts 56 32 35 1 35 1) (numbers "0 0 3 1 3 3 0 0 3 1 1 1 1 0 1 0 0 3 4 4 0 0 4 1 1 1 1 0 0 5 1 1 1 1 0 0 6 1 1 1 1 0 0 7 1 1 1 1 0 1 0 0 3 2 2 0 0 8 1 1 1 1 0 1 0 0 5 3 3 0 4 0 0 6 3 3 0 1 0 0 8 4 4 0 1 0 0 10 5 5 0 1 0 0 14 9 9 0 0 9 1 1 1 1 0 1 0 0 16 10 10 0 0 10 1 1 1 1 0 2 1 0 1 1 0 1 0 11 4 1 4 4 0 0 15 1 1 1 1 0 1 0 0 3 5 5 0 0 16 1 1 1 1 0 1 0 0 5 6 6 0 4 0 0 6 6 6 0 3 2 0 7 6 6 0 0 17 1 1 1 1 0 1 0 0 9 7 7 0 0 18 3 1 3 3 0 1 0 0 11 10 10 0 2 1 0 1 1 0 1 1 0 0 13 11 10 1 4 0 0 14 11 10 1 0 21 4 1 4 4 0 0 25 1 1 1 1 0 1 0 0 3 5 5 0 0 26 1 1 1 1 0 1 0 0 5 6 6 0 1 0 0 20 17 10 1 4 0 0 21 17 10 1 1 0 0 23 18 0 1 3 2 0 24 18 0 1 1 0 0 26 19 1 1 0 27 1 1 1 1 0 1 0 0 28 20 1 1 0 28 2 1 2 2 0 1 0 0 30 22 1 1 1 0 0 47 32 11 1 2 1 0 1 1 0 1 0 30 1 1 1 1 0 0 31 1 1 1 1 0 1 0 0 3 2 2 0 4 0 0 4 2 2 0 1 0 0 6 3 0 1 3 2 0 7 3 0 1 1 0 0 55 35 11 1 4 0 0 56 35 11 1") (numbers "100 101 102 32 107 46 123 117 125 32 58 83 111 114 116 32 117 32 226 134 146 83 111 114 116 32 117 32 58 61 64 99") (bytes "def k.{u} : Sort u → Sort u := @c")
unfolding computing numbers source lent counts done
print56 = refl

-- expression 1, indent 2, width 0
pub print57 :
    print_expr (source "115 83" "2 3 0 1 0 2 0 0 0 1 1 1 0 0 0 0 1 0 0 0 1 0 1 0 0 0 2 1 0 0 0 0 1 0 7 2 65534 0 0 0 2 0") 1 2 0 (lent 9 8 8)
    ≡ done (counts 9 8 8 1 8 2) (numbers "0 0 1 1 1 1 0 0 1 1 1 1 1 0 1 0 0 3 2 2 0 4 0 0 4 2 2 0 0 2 1 1 1 1 0 1 0 0 6 3 3 0 0 3 5 1 5 5 0 1 0 0 8 8 8 0 4 0 0 9 8 8 0") (numbers "64 115 46 54 53 53 51 53") (bytes "@s.65535")
unfolding computing numbers source lent counts done
print57 = refl

-- expression 1, indent 2, width 119
pub print58 :
    print_expr (source "115 83" "2 3 0 1 0 2 0 0 0 1 1 1 0 0 0 0 1 0 0 0 1 0 1 0 0 0 2 1 0 0 0 0 1 0 7 2 65534 0 0 0 2 0") 1 2 119 (lent 9 8 8)
    ≡ done (counts 9 8 8 1 8 1) (numbers "0 0 1 1 1 1 0 0 1 1 1 1 1 0 1 0 0 3 2 2 0 4 0 0 4 2 2 0 0 2 1 1 1 1 0 1 0 0 6 3 3 0 0 3 5 1 5 5 0 1 0 0 8 8 8 0 4 0 0 9 8 8 0") (numbers "64 115 46 54 53 53 51 53") (bytes "@s.65535")
unfolding computing numbers source lent counts done
print58 = refl

-- expression 1, indent 2, width 120
pub print59 :
    print_expr (source "115 83" "2 3 0 1 0 2 0 0 0 1 1 1 0 0 0 0 1 0 0 0 1 0 1 0 0 0 2 1 0 0 0 0 1 0 7 2 65534 0 0 0 2 0") 1 2 120 (lent 9 8 8)
    ≡ done (counts 9 8 8 1 8 1) (numbers "0 0 1 1 1 1 0 0 1 1 1 1 1 0 1 0 0 3 2 2 0 4 0 0 4 2 2 0 0 2 1 1 1 1 0 1 0 0 6 3 3 0 0 3 5 1 5 5 0 1 0 0 8 8 8 0 4 0 0 9 8 8 0") (numbers "64 115 46 54 53 53 51 53") (bytes "@s.65535")
unfolding computing numbers source lent counts done
print59 = refl

-- expression 2, indent 2, width 2
pub print60 :
    print_expr (source "110 101 103 97 45" "3 3 0 1 0 3 0 1 0 3 3 1 4 1 0 0 0 0 1 0 0 0 1 0 1 0 0 0 2 1 0 0 0 0 1 0 2 2 0 0 0 0 1 0 3 0 1 0 0 0 2 0 1 0 75 2") 2 2 2 (lent 9 3 4)
    ≡ done (counts 9 3 4 2 2 2) (numbers "0 0 1 1 1 1 0 2 0 0 1 0 0 1 1 0 0 3 1 1 1 4 0 0 4 1 1 1 0 1 1 1 1 1 0 0 2 1 1 1 1 0 1 0 0 3 2 2 0 1 0 0 8 3 1 1 4 0 0 9 3 1 1") (numbers "45 64 97") (bytes "-\n@a")
unfolding computing numbers source lent counts done
print60 = refl

-- expression 2, indent 2, width 3
pub print61 :
    print_expr (source "110 101 103 97 45" "3 3 0 1 0 3 0 1 0 3 3 1 4 1 0 0 0 0 1 0 0 0 1 0 1 0 0 0 2 1 0 0 0 0 1 0 2 2 0 0 0 0 1 0 3 0 1 0 0 0 2 0 1 0 75 2") 2 2 3 (lent 9 3 3)
    ≡ done (counts 9 3 3 1 3 1) (numbers "0 0 1 1 1 1 0 2 0 0 1 0 0 1 1 0 0 3 1 1 1 4 0 0 4 1 1 1 0 1 1 1 1 1 0 0 2 1 1 1 1 0 1 0 0 3 2 2 0 1 0 0 8 3 1 1 4 0 0 9 3 1 1") (numbers "45 64 97") (bytes "-@a")
unfolding computing numbers source lent counts done
print61 = refl

-- expression 2, indent 2, width 0
pub print62 :
    print_expr (source "110 101 103 97 45" "3 3 0 1 0 3 0 1 0 3 3 1 4 1 0 0 0 0 1 0 0 0 1 0 1 0 0 0 2 1 0 0 0 0 1 0 2 2 0 0 0 0 1 0 3 0 1 0 0 0 2 0 1 0 75 2") 2 2 0 (lent 9 3 4)
    ≡ done (counts 9 3 4 2 2 2) (numbers "0 0 1 1 1 1 0 2 0 0 1 0 0 1 1 0 0 3 1 1 1 4 0 0 4 1 1 1 0 1 1 1 1 1 0 0 2 1 1 1 1 0 1 0 0 3 2 2 0 1 0 0 8 3 1 1 4 0 0 9 3 1 1") (numbers "45 64 97") (bytes "-\n@a")
unfolding computing numbers source lent counts done
print62 = refl

-- expression 2, indent 2, width 1
pub print63 :
    print_expr (source "110 101 103 97 45" "3 3 0 1 0 3 0 1 0 3 3 1 4 1 0 0 0 0 1 0 0 0 1 0 1 0 0 0 2 1 0 0 0 0 1 0 2 2 0 0 0 0 1 0 3 0 1 0 0 0 2 0 1 0 75 2") 2 2 1 (lent 9 3 4)
    ≡ done (counts 9 3 4 2 2 2) (numbers "0 0 1 1 1 1 0 2 0 0 1 0 0 1 1 0 0 3 1 1 1 4 0 0 4 1 1 1 0 1 1 1 1 1 0 0 2 1 1 1 1 0 1 0 0 3 2 2 0 1 0 0 8 3 1 1 4 0 0 9 3 1 1") (numbers "45 64 97") (bytes "-\n@a")
unfolding computing numbers source lent counts done
print63 = refl

-- expression 2, indent 2, width 2
pub print64 :
    print_expr (source "110 101 103 97 45" "3 3 0 1 0 3 0 1 0 3 3 1 4 1 0 0 0 0 1 0 0 0 1 0 1 0 0 0 2 1 0 0 0 0 1 0 2 2 0 0 0 0 1 0 3 0 1 0 0 0 2 0 1 0 75 2") 2 2 2 (lent 9 3 4)
    ≡ done (counts 9 3 4 2 2 2) (numbers "0 0 1 1 1 1 0 2 0 0 1 0 0 1 1 0 0 3 1 1 1 4 0 0 4 1 1 1 0 1 1 1 1 1 0 0 2 1 1 1 1 0 1 0 0 3 2 2 0 1 0 0 8 3 1 1 4 0 0 9 3 1 1") (numbers "45 64 97") (bytes "-\n@a")
unfolding computing numbers source lent counts done
print64 = refl

-- expression 3, indent 2, width 0
pub print65 :
    print_expr (source "110 101 103 97 45" "3 3 0 1 0 4 0 1 0 3 3 1 4 1 0 0 0 0 1 0 0 0 1 0 1 0 0 0 2 1 0 0 0 0 1 0 2 2 0 0 0 0 1 0 3 0 1 0 0 0 2 0 3 0 2 0 0 0 3 0 1 0 75 2") 3 2 0 (lent 18 6 8)
    ≡ done (counts 18 6 8 3 3 3) (numbers "0 0 1 1 1 1 0 2 0 0 1 0 0 1 1 0 0 3 1 1 1 4 0 0 4 1 1 1 0 1 1 1 1 1 0 0 2 1 1 1 1 0 2 0 0 1 0 0 1 1 0 0 3 1 1 1 4 0 0 4 1 1 1 0 3 1 1 1 1 0 0 4 1 1 1 1 0 1 0 0 3 2 2 0 1 0 0 8 3 1 1 1 0 0 10 4 2 1 0 5 1 1 1 1 0 1 0 0 12 5 2 1 1 0 0 17 6 1 1 4 0 0 18 6 1 1") (numbers "45 40 45 64 97 41") (bytes "-\n(-\n@a)")
unfolding computing numbers source lent counts done
print65 = refl

-- expression 8, indent 2, width 120
pub print66 :
    print_expr (source "97 100 100 110 101 103 97 102 97 99 98 43 45 33" "8 6 0 1 0 9 0 3 0 3 3 3 6 1 7 3 10 1 11 1 12 1 13 1 0 0 0 0 1 0 0 0 1 0 1 0 1 0 2 0 1 0 3 0 1 0 4 0 0 0 2 1 0 0 0 0 1 0 2 2 0 0 0 0 1 0 2 3 0 0 0 0 1 0 3 1 2 0 0 0 2 0 3 0 3 0 0 0 3 0 2 4 0 0 0 0 1 0 2 5 0 0 0 0 1 0 3 5 6 0 0 0 2 0 3 4 7 0 0 0 4 0 1 1 65 5 2 0 75 6 4 2 80 7") 8 2 120 (lent 24 7 7)
    ≡ done (counts 24 7 7 1 7 1) (numbers "0 0 1 1 1 1 0 2 0 0 1 0 0 1 1 0 0 3 1 1 1 4 0 0 4 1 1 1 0 1 1 1 1 1 0 0 2 1 1 1 1 0 1 0 0 3 2 2 0 1 0 0 8 3 1 1 0 3 1 1 1 1 0 1 0 0 10 4 1 1 2 0 0 1 0 0 1 1 0 0 12 4 1 1 0 4 1 1 1 1 0 0 5 1 1 1 1 0 1 0 0 3 2 2 0 2 0 0 1 0 0 1 1 0 0 5 2 2 1 0 6 1 1 1 1 0 1 0 0 7 3 2 1 4 0 0 8 3 2 1 1 0 0 21 7 1 1 4 0 0 22 7 1 1 3 2 0 23 7 1 1 4 0 0 24 7 1 1") (numbers "45 64 97 43 64 98 33") (bytes "-@a+@b!")
unfolding computing numbers source lent counts done
print66 = refl

-- expression 2, indent 2, width 0
pub print67 :
    print_expr (source "102 97 99 97 33" "3 3 0 1 0 3 0 1 0 3 3 1 4 1 0 0 0 0 1 0 0 0 1 0 1 0 0 0 2 1 0 0 0 0 1 0 2 2 0 0 0 0 1 0 3 0 1 0 0 0 2 0 1 2 80 2") 2 2 0 (lent 9 3 4)
    ≡ done (counts 9 3 4 2 2 2) (numbers "0 0 1 1 1 1 0 0 1 1 1 1 1 0 1 0 0 3 2 2 0 2 0 0 1 0 0 1 1 0 0 5 2 2 1 0 2 1 1 1 1 0 1 0 0 7 3 2 1 4 0 0 8 3 2 1 4 0 0 9 3 2 1") (numbers "64 97 33") (bytes "@a\n!")
unfolding computing numbers source lent counts done
print67 = refl
