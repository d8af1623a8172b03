-- Recorded prints 0 to 16, computed by the definitions. Written by differential/compute.py.
use Rattle.std.specs.Prelude.{◌≡◌, refl}
use Rattle.utf8.specs.Quoted.{bytes}
use Rattle.lister.specs.Prints.{print_expr}
use Rattle.specimens.specs.Computing.{computing}
use Rattle.computed.specs.Areas.{numbers, source, lent, counts, done}

-- expression 0, indent 2, width 0
pub print0 :
    print_expr (source "" "0 0 0 0 0 1 0 0 0 0 0 0 0 0 1 1") 0 2 0 (lent 2 1 1)
    ≡ done (counts 2 1 1 1 1 1) (numbers "0 0 1 1 1 1 0 4 0 0 2 1 1 0") (numbers "48") (bytes "0")
unfolding computing numbers source lent counts done
print0 = refl

-- expression 0, indent 2, width 119
pub print1 :
    print_expr (source "" "0 0 0 0 0 1 0 0 0 0 0 0 0 0 1 1") 0 2 119 (lent 2 1 1)
    ≡ done (counts 2 1 1 1 1 1) (numbers "0 0 1 1 1 1 0 4 0 0 2 1 1 0") (numbers "48") (bytes "0")
unfolding computing numbers source lent counts done
print1 = refl

-- expression 0, indent 2, width 120
pub print2 :
    print_expr (source "" "0 0 0 0 0 1 0 0 0 0 0 0 0 0 1 1") 0 2 120 (lent 2 1 1)
    ≡ done (counts 2 1 1 1 1 1) (numbers "0 0 1 1 1 1 0 4 0 0 2 1 1 0") (numbers "48") (bytes "0")
unfolding computing numbers source lent counts done
print2 = refl

-- expression 2, indent 2, width 119
pub print3 :
    print_expr (source "120 67" "2 3 0 1 0 3 0 0 0 1 1 1 0 0 0 0 1 0 0 0 1 0 1 0 0 0 0 5 0 0 0 0 1 6 2 2 0 0 0 0 1 0 4 1 0 0 1 0 2 6") 2 2 119 (lent 15 7 8)
    ≡ done (counts 15 7 8 1 8 1) (numbers "0 0 1 1 1 1 0 4 0 0 2 1 1 0 3 2 0 3 1 1 0 0 1 1 1 1 1 0 1 0 0 5 2 2 0 0 2 3 1 3 3 0 1 0 0 7 5 5 0 2 1 0 1 1 0 1 1 0 0 9 6 5 1 4 0 0 10 6 5 1 0 5 1 1 1 1 0 0 6 1 1 1 1 0 1 0 0 3 2 2 0 1 0 0 14 8 5 1 4 0 0 15 8 5 1") (numbers "54 32 226 134 146 64 67") (bytes "6 → @C")
unfolding computing numbers source lent counts done
print3 = refl

-- expression 2, indent 2, width 120
pub print4 :
    print_expr (source "120 67" "2 3 0 1 0 3 0 0 0 1 1 1 0 0 0 0 1 0 0 0 1 0 1 0 0 0 0 5 0 0 0 0 1 6 2 2 0 0 0 0 1 0 4 1 0 0 1 0 2 6") 2 2 120 (lent 15 7 8)
    ≡ done (counts 15 7 8 1 8 1) (numbers "0 0 1 1 1 1 0 4 0 0 2 1 1 0 3 2 0 3 1 1 0 0 1 1 1 1 1 0 1 0 0 5 2 2 0 0 2 3 1 3 3 0 1 0 0 7 5 5 0 2 1 0 1 1 0 1 1 0 0 9 6 5 1 4 0 0 10 6 5 1 0 5 1 1 1 1 0 0 6 1 1 1 1 0 1 0 0 3 2 2 0 1 0 0 14 8 5 1 4 0 0 15 8 5 1") (numbers "54 32 226 134 146 64 67") (bytes "6 → @C")
unfolding computing numbers source lent counts done
print4 = refl

-- expression 0, indent 2, width 119
pub print5 :
    print_expr (source "" "0 0 1 0 0 1 0 0 0 0 0 1 0 0 0 0 0 1 0") 0 2 119 (lent 2 4 4)
    ≡ done (counts 2 4 4 1 4 1) (numbers "0 0 4 1 4 4 0 4 0 0 2 4 4 0") (numbers "80 114 111 112") (bytes "Prop")
unfolding computing numbers source lent counts done
print5 = refl

-- expression 0, indent 2, width 120
pub print6 :
    print_expr (source "" "0 0 1 0 0 1 0 0 0 0 0 1 0 0 0 0 0 1 0") 0 2 120 (lent 2 4 4)
    ≡ done (counts 2 4 4 1 4 1) (numbers "0 0 4 1 4 4 0 4 0 0 2 4 4 0") (numbers "80 114 111 112") (bytes "Prop")
unfolding computing numbers source lent counts done
print6 = refl

-- expression 0, indent 2, width 0
pub print7 :
    print_expr (source "" "0 0 2 0 0 1 0 0 0 0 0 2 0 0 1 1 0 0 0 0 1 0") 0 2 0 (lent 18 13 14)
    ≡ done (counts 18 13 14 2 11 1) (numbers "0 0 4 1 4 4 0 0 4 1 1 1 1 0 1 0 0 3 5 5 0 0 5 1 1 1 1 0 0 6 3 1 3 3 0 0 9 1 1 1 1 0 1 0 0 3 4 4 0 0 10 1 1 1 1 0 1 0 0 5 5 5 0 2 1 0 1 1 0 1 1 0 0 7 6 5 1 0 11 1 1 1 1 0 1 0 0 9 7 5 1 1 0 0 11 8 6 1 0 12 1 1 1 1 0 1 0 0 13 9 6 1 1 0 0 17 14 11 1 4 0 0 18 14 11 1") (numbers "83 111 114 116 32 40 109 97 120 32 48 48 41") (bytes "Sort (max 0\n0)")
unfolding computing numbers source lent counts done
print7 = refl

-- expression 0, indent 2, width 120
pub print8 :
    print_expr (source "" "0 0 2 0 0 1 0 0 0 0 0 2 0 0 1 1 0 0 0 0 1 0") 0 2 120 (lent 18 13 14)
    ≡ done (counts 18 13 14 1 14 1) (numbers "0 0 4 1 4 4 0 0 4 1 1 1 1 0 1 0 0 3 5 5 0 0 5 1 1 1 1 0 0 6 3 1 3 3 0 0 9 1 1 1 1 0 1 0 0 3 4 4 0 0 10 1 1 1 1 0 1 0 0 5 5 5 0 2 1 0 1 1 0 1 1 0 0 7 6 5 1 0 11 1 1 1 1 0 1 0 0 9 7 5 1 1 0 0 11 8 6 1 0 12 1 1 1 1 0 1 0 0 13 9 6 1 1 0 0 17 14 11 1 4 0 0 18 14 11 1") (numbers "83 111 114 116 32 40 109 97 120 32 48 48 41") (bytes "Sort (max 0 0)")
unfolding computing numbers source lent counts done
print8 = refl

-- expression 0, indent 2, width 0
pub print9 :
    print_expr (source "" "0 0 2 0 0 1 0 0 0 0 0 1 0 0 1 1 0 0 0 0 1 0") 0 2 0 (lent 6 6 6)
    ≡ done (counts 6 6 6 1 6 1) (numbers "0 0 4 1 4 4 0 0 4 1 1 1 1 0 1 0 0 3 5 5 0 0 5 1 1 1 1 0 1 0 0 5 6 6 0 4 0 0 6 6 6 0") (numbers "84 121 112 101 32 48") (bytes "Type 0")
unfolding computing numbers source lent counts done
print9 = refl

-- expression 0, indent 2, width 120
pub print10 :
    print_expr (source "" "0 0 2 0 0 1 0 0 0 0 0 1 0 0 1 1 0 0 0 0 1 0") 0 2 120 (lent 6 6 6)
    ≡ done (counts 6 6 6 1 6 1) (numbers "0 0 4 1 4 4 0 0 4 1 1 1 1 0 1 0 0 3 5 5 0 0 5 1 1 1 1 0 1 0 0 5 6 6 0 4 0 0 6 6 6 0") (numbers "84 121 112 101 32 48") (bytes "Type 0")
unfolding computing numbers source lent counts done
print10 = refl

-- expression 0, indent 2, width 0
pub print11 :
    print_expr (source "117" "1 2 3 0 0 1 0 0 0 1 0 0 0 0 1 0 0 0 4 1 0 1 0 0 1 1 0 1 2 0 0 0 0 1 0") 0 2 0 (lent 14 10 10)
    ≡ done (counts 14 10 10 1 10 1) (numbers "0 0 4 1 4 4 0 0 4 1 1 1 1 0 1 0 0 3 5 5 0 0 5 1 1 1 1 0 0 6 1 1 1 1 0 0 7 1 1 1 1 0 1 0 0 3 2 2 0 0 8 1 1 1 1 0 1 0 0 5 3 3 0 1 0 0 7 4 4 0 0 9 1 1 1 1 0 1 0 0 9 5 5 0 1 0 0 13 10 10 0 4 0 0 14 10 10 0") (numbers "84 121 112 101 32 40 117 43 49 41") (bytes "Type (u+1)")
unfolding computing numbers source lent counts done
print11 = refl

-- expression 0, indent 2, width 119
pub print12 :
    print_expr (source "117" "1 2 3 0 0 1 0 0 0 1 0 0 0 0 1 0 0 0 4 1 0 1 0 0 1 1 0 1 2 0 0 0 0 1 0") 0 2 119 (lent 14 10 10)
    ≡ done (counts 14 10 10 1 10 1) (numbers "0 0 4 1 4 4 0 0 4 1 1 1 1 0 1 0 0 3 5 5 0 0 5 1 1 1 1 0 0 6 1 1 1 1 0 0 7 1 1 1 1 0 1 0 0 3 2 2 0 0 8 1 1 1 1 0 1 0 0 5 3 3 0 1 0 0 7 4 4 0 0 9 1 1 1 1 0 1 0 0 9 5 5 0 1 0 0 13 10 10 0 4 0 0 14 10 10 0") (numbers "84 121 112 101 32 40 117 43 49 41") (bytes "Type (u+1)")
unfolding computing numbers source lent counts done
print12 = refl

-- expression 0, indent 2, width 0
pub print13 :
    print_expr (source "117 118" "2 3 3 0 0 1 0 0 0 1 1 1 0 0 0 0 1 0 0 0 1 0 1 0 4 1 0 4 2 0 2 0 1 1 2 0 0 0 0 1 0") 0 2 0 (lent 18 13 14)
    ≡ done (counts 18 13 14 2 11 1) (numbers "0 0 4 1 4 4 0 0 4 1 1 1 1 0 1 0 0 3 5 5 0 0 5 1 1 1 1 0 0 6 3 1 3 3 0 0 9 1 1 1 1 0 1 0 0 3 4 4 0 0 10 1 1 1 1 0 1 0 0 5 5 5 0 2 1 0 1 1 0 1 1 0 0 7 6 5 1 0 11 1 1 1 1 0 1 0 0 9 7 5 1 1 0 0 11 8 6 1 0 12 1 1 1 1 0 1 0 0 13 9 6 1 1 0 0 17 14 11 1 4 0 0 18 14 11 1") (numbers "83 111 114 116 32 40 109 97 120 32 117 118 41") (bytes "Sort (max u\nv)")
unfolding computing numbers source lent counts done
print13 = refl

-- expression 0, indent 2, width 119
pub print14 :
    print_expr (source "117 118" "2 3 3 0 0 1 0 0 0 1 1 1 0 0 0 0 1 0 0 0 1 0 1 0 4 1 0 4 2 0 2 0 1 1 2 0 0 0 0 1 0") 0 2 119 (lent 18 13 14)
    ≡ done (counts 18 13 14 1 14 1) (numbers "0 0 4 1 4 4 0 0 4 1 1 1 1 0 1 0 0 3 5 5 0 0 5 1 1 1 1 0 0 6 3 1 3 3 0 0 9 1 1 1 1 0 1 0 0 3 4 4 0 0 10 1 1 1 1 0 1 0 0 5 5 5 0 2 1 0 1 1 0 1 1 0 0 7 6 5 1 0 11 1 1 1 1 0 1 0 0 9 7 5 1 1 0 0 11 8 6 1 0 12 1 1 1 1 0 1 0 0 13 9 6 1 1 0 0 17 14 11 1 4 0 0 18 14 11 1") (numbers "83 111 114 116 32 40 109 97 120 32 117 118 41") (bytes "Sort (max u v)")
unfolding computing numbers source lent counts done
print14 = refl

-- expression 0, indent 2, width 0
pub print15 :
    print_expr (source "117 118" "2 3 5 0 0 1 0 0 0 1 1 1 0 0 0 0 1 0 0 0 1 0 1 0 4 1 0 4 2 0 2 0 1 1 2 0 1 3 0 1 4 0 0 0 0 1 0") 0 2 0 (lent 26 17 18)
    ≡ done (counts 26 17 18 2 12 1) (numbers "0 0 4 1 4 4 0 0 4 1 1 1 1 0 1 0 0 3 5 5 0 0 5 1 1 1 1 0 0 6 1 1 1 1 0 0 7 3 1 3 3 0 0 10 1 1 1 1 0 1 0 0 3 4 4 0 0 11 1 1 1 1 0 1 0 0 5 5 5 0 2 1 0 1 1 0 1 1 0 0 7 6 5 1 0 12 1 1 1 1 0 1 0 0 9 7 5 1 1 0 0 11 8 6 1 0 13 1 1 1 1 0 1 0 0 13 9 6 1 0 14 1 1 1 1 0 1 0 0 15 10 6 1 0 15 1 1 1 1 0 1 0 0 17 11 6 1 1 0 0 19 12 7 1 0 16 1 1 1 1 0 1 0 0 21 13 7 1 1 0 0 25 18 12 1 4 0 0 26 18 12 1") (numbers "84 121 112 101 32 40 40 109 97 120 32 117 118 41 43 49 41") (bytes "Type ((max u\nv)+1)")
unfolding computing numbers source lent counts done
print15 = refl

-- expression 0, indent 2, width 119
pub print16 :
    print_expr (source "117 118" "2 3 5 0 0 1 0 0 0 1 1 1 0 0 0 0 1 0 0 0 1 0 1 0 4 1 0 4 2 0 2 0 1 1 2 0 1 3 0 1 4 0 0 0 0 1 0") 0 2 119 (lent 26 17 18)
    ≡ done (counts 26 17 18 1 18 1) (numbers "0 0 4 1 4 4 0 0 4 1 1 1 1 0 1 0 0 3 5 5 0 0 5 1 1 1 1 0 0 6 1 1 1 1 0 0 7 3 1 3 3 0 0 10 1 1 1 1 0 1 0 0 3 4 4 0 0 11 1 1 1 1 0 1 0 0 5 5 5 0 2 1 0 1 1 0 1 1 0 0 7 6 5 1 0 12 1 1 1 1 0 1 0 0 9 7 5 1 1 0 0 11 8 6 1 0 13 1 1 1 1 0 1 0 0 13 9 6 1 0 14 1 1 1 1 0 1 0 0 15 10 6 1 0 15 1 1 1 1 0 1 0 0 17 11 6 1 1 0 0 19 12 7 1 0 16 1 1 1 1 0 1 0 0 21 13 7 1 1 0 0 25 18 12 1 4 0 0 26 18 12 1") (numbers "84 121 112 101 32 40 40 109 97 120 32 117 118 41 43 49 41") (bytes "Type ((max u v)+1)")
unfolding computing numbers source lent counts done
print16 = refl
