-- Prints into short areas, as model.py has them, computed by the definitions. Written by differential/compute.py.
use Rattle.std.specs.Prelude.{◌≡◌, refl, Err}
use Rattle.lister.specs.declared.error.PrintError.TheVariants.{RowArea, TextArea, Listing}
use Rattle.lister.specs.Prints.{print_expr}
use Rattle.specimens.specs.Computing.{computing}
use Rattle.computed.specs.Areas.{numbers, source, filled, left}

-- expression 2, indent 2, width 119: refused 20 at 14
pub refusal0 :
    print_expr (source "120 67" "2 3 0 1 0 3 0 0 0 1 1 1 0 0 0 0 1 0 0 0 1 0 1 0 0 0 0 5 0 0 0 0 1 6 2 2 0 0 0 0 1 0 4 1 0 0 1 0 2 6") 2 2 119 (filled 104 7 8)
    ≡ left (Err (RowArea 14)) (numbers "0 0 0 0 0 0 0 0 0 0 0 0 0 0 0 0 0 0 0 0 0 0 0 0 0 0 0 0 0 0 0 0 0 0 0 0 0 0 0 0 0 0 0 0 0 0 0 0 0 0 0 0 0 0 0 0 0 0 0 0 0 0 0 0 0 0 0 0 0 0 0 0 0 0 0 0 0 0 0 0 0 0 0 0 0 0 0 0 0 0 0 0 0 0 0 0 0 0 0 0 0 0 0 0") (numbers "0 0 0 0 0 0 0") (numbers "7 7 7 7 7 7 7 7")
unfolding computing numbers source filled left
refusal0 = refl

-- expression 2, indent 2, width 119: refused 21 at 11
pub refusal1 :
    print_expr (source "120 67" "2 3 0 1 0 3 0 0 0 1 1 1 0 0 0 0 1 0 0 0 1 0 1 0 0 0 0 5 0 0 0 0 1 6 2 2 0 0 0 0 1 0 4 1 0 0 1 0 2 6") 2 2 119 (filled 105 6 8)
    ≡ left (Err (TextArea 11)) (numbers "0 0 0 0 0 0 0 0 0 0 0 0 0 0 0 0 0 0 0 0 0 0 0 0 0 0 0 0 0 0 0 0 0 0 0 0 0 0 0 0 0 0 0 0 0 0 0 0 0 0 0 0 0 0 0 0 0 0 0 0 0 0 0 0 0 0 0 0 0 0 0 0 0 0 0 0 0 0 0 0 0 0 0 0 0 0 0 0 0 0 0 0 0 0 0 0 0 0 0 0 0 0 0 0 0") (numbers "0 0 0 0 0 0") (numbers "7 7 7 7 7 7 7 7")
unfolding computing numbers source filled left
refusal1 = refl

-- expression 2, indent 2, width 119: refused 22 at 0
pub refusal2 :
    print_expr (source "120 67" "2 3 0 1 0 3 0 0 0 1 1 1 0 0 0 0 1 0 0 0 1 0 1 0 0 0 0 5 0 0 0 0 1 6 2 2 0 0 0 0 1 0 4 1 0 0 1 0 2 6") 2 2 119 (filled 105 7 7)
    ≡ left (Err Listing) (numbers "0 0 1 1 1 1 0 4 0 0 2 1 1 0 3 2 0 3 1 1 0 0 1 1 1 1 1 0 1 0 0 5 2 2 0 0 2 3 1 3 3 0 1 0 0 7 5 5 0 2 1 0 1 1 0 1 1 0 0 9 6 5 1 4 0 0 10 6 5 1 0 5 1 1 1 1 0 0 6 1 1 1 1 0 1 0 0 3 2 2 0 1 0 0 14 8 5 1 4 0 0 15 8 5 1") (numbers "54 32 226 134 146 64 67") (numbers "54 32 226 134 146 32 64")
unfolding computing numbers source filled left
refusal2 = refl

-- expression 2, indent 2, width 119: refused 20 at 7
pub refusal3 :
    print_expr (source "120 67" "2 3 0 1 0 3 0 0 0 1 1 1 0 0 0 0 1 0 0 0 1 0 1 0 0 0 0 5 0 0 0 0 1 6 2 2 0 0 0 0 1 0 4 1 0 0 1 0 2 6") 2 2 119 (filled 52 7 8)
    ≡ left (Err (RowArea 7)) (numbers "0 0 0 0 0 0 0 0 0 0 0 0 0 0 0 0 0 0 0 0 0 0 0 0 0 0 0 0 0 0 0 0 0 0 0 0 0 0 0 0 0 0 0 0 0 0 0 0 0 0 0 0") (numbers "0 0 0 0 0 0 0") (numbers "7 7 7 7 7 7 7 7")
unfolding computing numbers source filled left
refusal3 = refl

-- expression 2, indent 2, width 119: refused 21 at 5
pub refusal4 :
    print_expr (source "120 67" "2 3 0 1 0 3 0 0 0 1 1 1 0 0 0 0 1 0 0 0 1 0 1 0 0 0 0 5 0 0 0 0 1 6 2 2 0 0 0 0 1 0 4 1 0 0 1 0 2 6") 2 2 119 (filled 105 3 8)
    ≡ left (Err (TextArea 5)) (numbers "0 0 0 0 0 0 0 0 0 0 0 0 0 0 0 0 0 0 0 0 0 0 0 0 0 0 0 0 0 0 0 0 0 0 0 0 0 0 0 0 0 0 0 0 0 0 0 0 0 0 0 0 0 0 0 0 0 0 0 0 0 0 0 0 0 0 0 0 0 0 0 0 0 0 0 0 0 0 0 0 0 0 0 0 0 0 0 0 0 0 0 0 0 0 0 0 0 0 0 0 0 0 0 0 0") (numbers "0 0 0") (numbers "7 7 7 7 7 7 7 7")
unfolding computing numbers source filled left
refusal4 = refl

-- expression 2, indent 2, width 119: refused 21 at 5
pub refusal5 :
    print_expr (source "120 67" "2 3 0 1 0 3 0 0 0 1 1 1 0 0 0 0 1 0 0 0 1 0 1 0 0 0 0 5 0 0 0 0 1 6 2 2 0 0 0 0 1 0 4 1 0 0 1 0 2 6") 2 2 119 (filled 52 3 8)
    ≡ left (Err (TextArea 5)) (numbers "0 0 0 0 0 0 0 0 0 0 0 0 0 0 0 0 0 0 0 0 0 0 0 0 0 0 0 0 0 0 0 0 0 0 0 0 0 0 0 0 0 0 0 0 0 0 0 0 0 0 0 0") (numbers "0 0 0") (numbers "7 7 7 7 7 7 7 7")
unfolding computing numbers source filled left
refusal5 = refl

-- expression 2, indent 2, width 119: refused 22 at 0
pub refusal6 :
    print_expr (source "120 67" "2 3 0 1 0 3 0 0 0 1 1 1 0 0 0 0 1 0 0 0 1 0 1 0 0 0 0 5 0 0 0 0 1 6 2 2 0 0 0 0 1 0 4 1 0 0 1 0 2 6") 2 2 119 (filled 105 7 0)
    ≡ left (Err Listing) (numbers "0 0 1 1 1 1 0 4 0 0 2 1 1 0 3 2 0 3 1 1 0 0 1 1 1 1 1 0 1 0 0 5 2 2 0 0 2 3 1 3 3 0 1 0 0 7 5 5 0 2 1 0 1 1 0 1 1 0 0 9 6 5 1 4 0 0 10 6 5 1 0 5 1 1 1 1 0 0 6 1 1 1 1 0 1 0 0 3 2 2 0 1 0 0 14 8 5 1 4 0 0 15 8 5 1") (numbers "54 32 226 134 146 64 67") (numbers "")
unfolding computing numbers source filled left
refusal6 = refl

-- expression 2, indent 2, width 119: refused 21 at 0
pub refusal7 :
    print_expr (source "120 67" "2 3 0 1 0 3 0 0 0 1 1 1 0 0 0 0 1 0 0 0 1 0 1 0 0 0 0 5 0 0 0 0 1 6 2 2 0 0 0 0 1 0 4 1 0 0 1 0 2 6") 2 2 119 (filled 0 0 0)
    ≡ left (Err (TextArea 0)) (numbers "") (numbers "") (numbers "")
unfolding computing numbers source filled left
refusal7 = refl

-- expression 2, indent 2, width 120: refused 20 at 14
pub refusal8 :
    print_expr (source "120 67" "2 3 0 1 0 3 0 0 0 1 1 1 0 0 0 0 1 0 0 0 1 0 1 0 0 0 0 5 0 0 0 0 1 6 2 2 0 0 0 0 1 0 4 1 0 0 1 0 2 6") 2 2 120 (filled 104 7 8)
    ≡ left (Err (RowArea 14)) (numbers "0 0 0 0 0 0 0 0 0 0 0 0 0 0 0 0 0 0 0 0 0 0 0 0 0 0 0 0 0 0 0 0 0 0 0 0 0 0 0 0 0 0 0 0 0 0 0 0 0 0 0 0 0 0 0 0 0 0 0 0 0 0 0 0 0 0 0 0 0 0 0 0 0 0 0 0 0 0 0 0 0 0 0 0 0 0 0 0 0 0 0 0 0 0 0 0 0 0 0 0 0 0 0 0") (numbers "0 0 0 0 0 0 0") (numbers "7 7 7 7 7 7 7 7")
unfolding computing numbers source filled left
refusal8 = refl

-- expression 2, indent 2, width 120: refused 21 at 11
pub refusal9 :
    print_expr (source "120 67" "2 3 0 1 0 3 0 0 0 1 1 1 0 0 0 0 1 0 0 0 1 0 1 0 0 0 0 5 0 0 0 0 1 6 2 2 0 0 0 0 1 0 4 1 0 0 1 0 2 6") 2 2 120 (filled 105 6 8)
    ≡ left (Err (TextArea 11)) (numbers "0 0 0 0 0 0 0 0 0 0 0 0 0 0 0 0 0 0 0 0 0 0 0 0 0 0 0 0 0 0 0 0 0 0 0 0 0 0 0 0 0 0 0 0 0 0 0 0 0 0 0 0 0 0 0 0 0 0 0 0 0 0 0 0 0 0 0 0 0 0 0 0 0 0 0 0 0 0 0 0 0 0 0 0 0 0 0 0 0 0 0 0 0 0 0 0 0 0 0 0 0 0 0 0 0") (numbers "0 0 0 0 0 0") (numbers "7 7 7 7 7 7 7 7")
unfolding computing numbers source filled left
refusal9 = refl

-- expression 2, indent 2, width 120: refused 22 at 0
pub refusal10 :
    print_expr (source "120 67" "2 3 0 1 0 3 0 0 0 1 1 1 0 0 0 0 1 0 0 0 1 0 1 0 0 0 0 5 0 0 0 0 1 6 2 2 0 0 0 0 1 0 4 1 0 0 1 0 2 6") 2 2 120 (filled 105 7 7)
    ≡ left (Err Listing) (numbers "0 0 1 1 1 1 0 4 0 0 2 1 1 0 3 2 0 3 1 1 0 0 1 1 1 1 1 0 1 0 0 5 2 2 0 0 2 3 1 3 3 0 1 0 0 7 5 5 0 2 1 0 1 1 0 1 1 0 0 9 6 5 1 4 0 0 10 6 5 1 0 5 1 1 1 1 0 0 6 1 1 1 1 0 1 0 0 3 2 2 0 1 0 0 14 8 5 1 4 0 0 15 8 5 1") (numbers "54 32 226 134 146 64 67") (numbers "54 32 226 134 146 32 64")
unfolding computing numbers source filled left
refusal10 = refl

-- expression 2, indent 2, width 120: refused 20 at 7
pub refusal11 :
    print_expr (source "120 67" "2 3 0 1 0 3 0 0 0 1 1 1 0 0 0 0 1 0 0 0 1 0 1 0 0 0 0 5 0 0 0 0 1 6 2 2 0 0 0 0 1 0 4 1 0 0 1 0 2 6") 2 2 120 (filled 52 7 8)
    ≡ left (Err (RowArea 7)) (numbers "0 0 0 0 0 0 0 0 0 0 0 0 0 0 0 0 0 0 0 0 0 0 0 0 0 0 0 0 0 0 0 0 0 0 0 0 0 0 0 0 0 0 0 0 0 0 0 0 0 0 0 0") (numbers "0 0 0 0 0 0 0") (numbers "7 7 7 7 7 7 7 7")
unfolding computing numbers source filled left
refusal11 = refl

-- expression 2, indent 2, width 120: refused 21 at 5
pub refusal12 :
    print_expr (source "120 67" "2 3 0 1 0 3 0 0 0 1 1 1 0 0 0 0 1 0 0 0 1 0 1 0 0 0 0 5 0 0 0 0 1 6 2 2 0 0 0 0 1 0 4 1 0 0 1 0 2 6") 2 2 120 (filled 105 3 8)
    ≡ left (Err (TextArea 5)) (numbers "0 0 0 0 0 0 0 0 0 0 0 0 0 0 0 0 0 0 0 0 0 0 0 0 0 0 0 0 0 0 0 0 0 0 0 0 0 0 0 0 0 0 0 0 0 0 0 0 0 0 0 0 0 0 0 0 0 0 0 0 0 0 0 0 0 0 0 0 0 0 0 0 0 0 0 0 0 0 0 0 0 0 0 0 0 0 0 0 0 0 0 0 0 0 0 0 0 0 0 0 0 0 0 0 0") (numbers "0 0 0") (numbers "7 7 7 7 7 7 7 7")
unfolding computing numbers source filled left
refusal12 = refl

-- expression 2, indent 2, width 120: refused 21 at 5
pub refusal13 :
    print_expr (source "120 67" "2 3 0 1 0 3 0 0 0 1 1 1 0 0 0 0 1 0 0 0 1 0 1 0 0 0 0 5 0 0 0 0 1 6 2 2 0 0 0 0 1 0 4 1 0 0 1 0 2 6") 2 2 120 (filled 52 3 8)
    ≡ left (Err (TextArea 5)) (numbers "0 0 0 0 0 0 0 0 0 0 0 0 0 0 0 0 0 0 0 0 0 0 0 0 0 0 0 0 0 0 0 0 0 0 0 0 0 0 0 0 0 0 0 0 0 0 0 0 0 0 0 0") (numbers "0 0 0") (numbers "7 7 7 7 7 7 7 7")
unfolding computing numbers source filled left
refusal13 = refl

-- expression 2, indent 2, width 120: refused 22 at 0
pub refusal14 :
    print_expr (source "120 67" "2 3 0 1 0 3 0 0 0 1 1 1 0 0 0 0 1 0 0 0 1 0 1 0 0 0 0 5 0 0 0 0 1 6 2 2 0 0 0 0 1 0 4 1 0 0 1 0 2 6") 2 2 120 (filled 105 7 0)
    ≡ left (Err Listing) (numbers "0 0 1 1 1 1 0 4 0 0 2 1 1 0 3 2 0 3 1 1 0 0 1 1 1 1 1 0 1 0 0 5 2 2 0 0 2 3 1 3 3 0 1 0 0 7 5 5 0 2 1 0 1 1 0 1 1 0 0 9 6 5 1 4 0 0 10 6 5 1 0 5 1 1 1 1 0 0 6 1 1 1 1 0 1 0 0 3 2 2 0 1 0 0 14 8 5 1 4 0 0 15 8 5 1") (numbers "54 32 226 134 146 64 67") (numbers "")
unfolding computing numbers source filled left
refusal14 = refl

-- expression 2, indent 2, width 120: refused 21 at 0
pub refusal15 :
    print_expr (source "120 67" "2 3 0 1 0 3 0 0 0 1 1 1 0 0 0 0 1 0 0 0 1 0 1 0 0 0 0 5 0 0 0 0 1 6 2 2 0 0 0 0 1 0 4 1 0 0 1 0 2 6") 2 2 120 (filled 0 0 0)
    ≡ left (Err (TextArea 0)) (numbers "") (numbers "") (numbers "")
unfolding computing numbers source filled left
refusal15 = refl

-- expression 3, indent 2, width 0: refused 20 at 17
pub refusal16 :
    print_expr (source "110 101 103 97 45" "3 3 0 1 0 4 0 1 0 3 3 1 4 1 0 0 0 0 1 0 0 0 1 0 1 0 0 0 2 1 0 0 0 0 1 0 2 2 0 0 0 0 1 0 3 0 1 0 0 0 2 0 3 0 2 0 0 0 3 0 1 0 75 2") 3 2 0 (filled 125 6 8)
    ≡ left (Err (RowArea 17)) (numbers "0 0 0 0 0 0 0 0 0 0 0 0 0 0 0 0 0 0 0 0 0 0 0 0 0 0 0 0 0 0 0 0 0 0 0 0 0 0 0 0 0 0 0 0 0 0 0 0 0 0 0 0 0 0 0 0 0 0 0 0 0 0 0 0 0 0 0 0 0 0 0 0 0 0 0 0 0 0 0 0 0 0 0 0 0 0 0 0 0 0 0 0 0 0 0 0 0 0 0 0 0 0 0 0 0 0 0 0 0 0 0 0 0 0 0 0 0 0 0 0 0 0 0 0 0") (numbers "0 0 0 0 0 0") (numbers "7 7 7 7 7 7 7 7")
unfolding computing numbers source filled left
refusal16 = refl

-- expression 3, indent 2, width 0: refused 21 at 14
pub refusal17 :
    print_expr (source "110 101 103 97 45" "3 3 0 1 0 4 0 1 0 3 3 1 4 1 0 0 0 0 1 0 0 0 1 0 1 0 0 0 2 1 0 0 0 0 1 0 2 2 0 0 0 0 1 0 3 0 1 0 0 0 2 0 3 0 2 0 0 0 3 0 1 0 75 2") 3 2 0 (filled 126 5 8)
    ≡ left (Err (TextArea 14)) (numbers "0 0 0 0 0 0 0 0 0 0 0 0 0 0 0 0 0 0 0 0 0 0 0 0 0 0 0 0 0 0 0 0 0 0 0 0 0 0 0 0 0 0 0 0 0 0 0 0 0 0 0 0 0 0 0 0 0 0 0 0 0 0 0 0 0 0 0 0 0 0 0 0 0 0 0 0 0 0 0 0 0 0 0 0 0 0 0 0 0 0 0 0 0 0 0 0 0 0 0 0 0 0 0 0 0 0 0 0 0 0 0 0 0 0 0 0 0 0 0 0 0 0 0 0 0 0") (numbers "0 0 0 0 0") (numbers "7 7 7 7 7 7 7 7")
unfolding computing numbers source filled left
refusal17 = refl

-- expression 3, indent 2, width 0: refused 22 at 0
pub refusal18 :
    print_expr (source "110 101 103 97 45" "3 3 0 1 0 4 0 1 0 3 3 1 4 1 0 0 0 0 1 0 0 0 1 0 1 0 0 0 2 1 0 0 0 0 1 0 2 2 0 0 0 0 1 0 3 0 1 0 0 0 2 0 3 0 2 0 0 0 3 0 1 0 75 2") 3 2 0 (filled 126 6 7)
    ≡ left (Err Listing) (numbers "0 0 1 1 1 1 0 2 0 0 1 0 0 1 1 0 0 3 1 1 1 4 0 0 4 1 1 1 0 1 1 1 1 1 0 0 2 1 1 1 1 0 2 0 0 1 0 0 1 1 0 0 3 1 1 1 4 0 0 4 1 1 1 0 3 1 1 1 1 0 0 4 1 1 1 1 0 1 0 0 3 2 2 0 1 0 0 8 3 1 1 1 0 0 10 4 2 1 0 5 1 1 1 1 0 1 0 0 12 5 2 1 1 0 0 17 6 1 1 4 0 0 18 6 1 1") (numbers "45 40 45 64 97 41") (numbers "45 10 40 45 10 64 97")
unfolding computing numbers source filled left
refusal18 = refl

-- expression 3, indent 2, width 0: refused 20 at 9
pub refusal19 :
    print_expr (source "110 101 103 97 45" "3 3 0 1 0 4 0 1 0 3 3 1 4 1 0 0 0 0 1 0 0 0 1 0 1 0 0 0 2 1 0 0 0 0 1 0 2 2 0 0 0 0 1 0 3 0 1 0 0 0 2 0 3 0 2 0 0 0 3 0 1 0 75 2") 3 2 0 (filled 63 6 8)
    ≡ left (Err (RowArea 9)) (numbers "0 0 0 0 0 0 0 0 0 0 0 0 0 0 0 0 0 0 0 0 0 0 0 0 0 0 0 0 0 0 0 0 0 0 0 0 0 0 0 0 0 0 0 0 0 0 0 0 0 0 0 0 0 0 0 0 0 0 0 0 0 0 0") (numbers "0 0 0 0 0 0") (numbers "7 7 7 7 7 7 7 7")
unfolding computing numbers source filled left
refusal19 = refl

-- expression 3, indent 2, width 0: refused 21 at 9
pub refusal20 :
    print_expr (source "110 101 103 97 45" "3 3 0 1 0 4 0 1 0 3 3 1 4 1 0 0 0 0 1 0 0 0 1 0 1 0 0 0 2 1 0 0 0 0 1 0 2 2 0 0 0 0 1 0 3 0 1 0 0 0 2 0 3 0 2 0 0 0 3 0 1 0 75 2") 3 2 0 (filled 126 3 8)
    ≡ left (Err (TextArea 9)) (numbers "0 0 0 0 0 0 0 0 0 0 0 0 0 0 0 0 0 0 0 0 0 0 0 0 0 0 0 0 0 0 0 0 0 0 0 0 0 0 0 0 0 0 0 0 0 0 0 0 0 0 0 0 0 0 0 0 0 0 0 0 0 0 0 0 0 0 0 0 0 0 0 0 0 0 0 0 0 0 0 0 0 0 0 0 0 0 0 0 0 0 0 0 0 0 0 0 0 0 0 0 0 0 0 0 0 0 0 0 0 0 0 0 0 0 0 0 0 0 0 0 0 0 0 0 0 0") (numbers "0 0 0") (numbers "7 7 7 7 7 7 7 7")
unfolding computing numbers source filled left
refusal20 = refl

-- expression 3, indent 2, width 0: refused 21 at 9
pub refusal21 :
    print_expr (source "110 101 103 97 45" "3 3 0 1 0 4 0 1 0 3 3 1 4 1 0 0 0 0 1 0 0 0 1 0 1 0 0 0 2 1 0 0 0 0 1 0 2 2 0 0 0 0 1 0 3 0 1 0 0 0 2 0 3 0 2 0 0 0 3 0 1 0 75 2") 3 2 0 (filled 63 3 8)
    ≡ left (Err (TextArea 9)) (numbers "0 0 0 0 0 0 0 0 0 0 0 0 0 0 0 0 0 0 0 0 0 0 0 0 0 0 0 0 0 0 0 0 0 0 0 0 0 0 0 0 0 0 0 0 0 0 0 0 0 0 0 0 0 0 0 0 0 0 0 0 0 0 0") (numbers "0 0 0") (numbers "7 7 7 7 7 7 7 7")
unfolding computing numbers source filled left
refusal21 = refl

-- expression 3, indent 2, width 0: refused 22 at 0
pub refusal22 :
    print_expr (source "110 101 103 97 45" "3 3 0 1 0 4 0 1 0 3 3 1 4 1 0 0 0 0 1 0 0 0 1 0 1 0 0 0 2 1 0 0 0 0 1 0 2 2 0 0 0 0 1 0 3 0 1 0 0 0 2 0 3 0 2 0 0 0 3 0 1 0 75 2") 3 2 0 (filled 126 6 0)
    ≡ left (Err Listing) (numbers "0 0 1 1 1 1 0 2 0 0 1 0 0 1 1 0 0 3 1 1 1 4 0 0 4 1 1 1 0 1 1 1 1 1 0 0 2 1 1 1 1 0 2 0 0 1 0 0 1 1 0 0 3 1 1 1 4 0 0 4 1 1 1 0 3 1 1 1 1 0 0 4 1 1 1 1 0 1 0 0 3 2 2 0 1 0 0 8 3 1 1 1 0 0 10 4 2 1 0 5 1 1 1 1 0 1 0 0 12 5 2 1 1 0 0 17 6 1 1 4 0 0 18 6 1 1") (numbers "45 40 45 64 97 41") (numbers "")
unfolding computing numbers source filled left
refusal22 = refl

-- expression 3, indent 2, width 0: refused 21 at 0
pub refusal23 :
    print_expr (source "110 101 103 97 45" "3 3 0 1 0 4 0 1 0 3 3 1 4 1 0 0 0 0 1 0 0 0 1 0 1 0 0 0 2 1 0 0 0 0 1 0 2 2 0 0 0 0 1 0 3 0 1 0 0 0 2 0 3 0 2 0 0 0 3 0 1 0 75 2") 3 2 0 (filled 0 0 0)
    ≡ left (Err (TextArea 0)) (numbers "") (numbers "") (numbers "")
unfolding computing numbers source filled left
refusal23 = refl
