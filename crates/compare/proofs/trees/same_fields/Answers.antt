use Rattle.std.proofs.Common.{refl, arith, ◌∙◌}
use Rattle.pool.proofs.ExprUnfolds.{kind_small}
use Rattle.pool.specs.declared.kinds.ExprKind.TheVariants.{Var, Sort, Const, App, Pi, Lambda, Let, Proj, Nat, String}
use Rattle.compare.proofs.EqualLaws.{say_var, say_const, say_app, say_sort, say_named, say_literal, same_kind}
use Rattle.pool.proofs.Standing.{found_kind}
use Rattle.compare.proofs.trees.same_fields.Goals as goal

pub returns-in-Some-Var : goal.returns-in-Some-Var
returns-in-Some-Var c =
    let kind = found_kind _ _ _ _ c.requires.kind_is c.in-Some-Var.field-0 Var c.in-Some-Var.is (rw c.in-Some-Var.is at c.in-Some-Var.field-0-is) in
    say_var _ c.args.d c.args.c _ _ _ _ kind c.same_var.ensures

pub same_sort-requires : goal.same_sort-requires
same_sort-requires c =
    let kind = found_kind _ _ _ _ c.requires.kind_is c.in-Some-Sort.field-0 Sort c.in-Some-Sort.is (rw c.in-Some-Sort.is at c.in-Some-Sort.field-0-is) in
    same_kind _ c.args.pool.now.sound _ _ _ c.requires.same 1 kind

pub returns-in-Some-Sort : goal.returns-in-Some-Sort
returns-in-Some-Sort c =
    let kind = found_kind _ _ _ _ c.requires.kind_is c.in-Some-Sort.field-0 Sort c.in-Some-Sort.is (rw c.in-Some-Sort.is at c.in-Some-Sort.field-0-is) in
    say_sort _ c.args.d c.args.c _ _ _ _ _ _ refl refl kind c.same_sort.ensures

pub same_const-requires : goal.same_const-requires
same_const-requires c =
    let kind = found_kind _ _ _ _ c.requires.kind_is c.in-Some-Const.field-0 Const c.in-Some-Const.is (rw c.in-Some-Const.is at c.in-Some-Const.field-0-is) in
    same_kind _ c.args.pool.now.sound _ _ _ c.requires.same 2 kind

pub returns-in-Some-Const : goal.returns-in-Some-Const
returns-in-Some-Const c =
    let kind = found_kind _ _ _ _ c.requires.kind_is c.in-Some-Const.field-0 Const c.in-Some-Const.is (rw c.in-Some-Const.is at c.in-Some-Const.field-0-is) in
    say_const _ c.args.d c.args.c _ _ _ _ kind c.same_const.ensures

pub returns-in-Some-App : goal.returns-in-Some-App
returns-in-Some-App c =
    let kind = found_kind _ _ _ _ c.requires.kind_is c.in-Some-App.field-0 App c.in-Some-App.is (rw c.in-Some-App.is at c.in-Some-App.field-0-is) in
    say_app _ c.args.d c.args.c _ _ _ _ kind refl

pub same_named-requires : goal.same_named-requires
same_named-requires c =
    let kind = found_kind _ _ _ _ c.requires.kind_is c.in-Some-Pi.field-0 Pi c.in-Some-Pi.is (rw c.in-Some-Pi.is at c.in-Some-Pi.field-0-is) in
    (c.requires.same, omega arith, omega arith, omega arith)

pub returns-in-Some-Pi : goal.returns-in-Some-Pi
returns-in-Some-Pi c =
    let kind = found_kind _ _ _ _ c.requires.kind_is c.in-Some-Pi.field-0 Pi c.in-Some-Pi.is (rw c.in-Some-Pi.is at c.in-Some-Pi.field-0-is) in
    say_named _ c.args.d c.args.c _ _ _ _ (λ e. omega arith) (λ e. omega arith) (λ e. omega arith) (λ e. omega arith)
    (omega arith) (c.same_named.ensures ∙ rw kind)

pub same_named-requires-in-Some-Lambda : goal.same_named-requires-in-Some-Lambda
same_named-requires-in-Some-Lambda c =
    let kind = found_kind _ _ _ _ c.requires.kind_is c.in-Some-Lambda.field-0 Lambda c.in-Some-Lambda.is (rw c.in-Some-Lambda.is at c.in-Some-Lambda.field-0-is) in
    (c.requires.same, omega arith, omega arith, omega arith)

pub returns-in-Some-Lambda : goal.returns-in-Some-Lambda
returns-in-Some-Lambda c =
    let kind = found_kind _ _ _ _ c.requires.kind_is c.in-Some-Lambda.field-0 Lambda c.in-Some-Lambda.is (rw c.in-Some-Lambda.is at c.in-Some-Lambda.field-0-is) in
    say_named _ c.args.d c.args.c _ _ _ _ (λ e. omega arith) (λ e. omega arith) (λ e. omega arith) (λ e. omega arith)
    (omega arith) (c.same_named-in-Some-Lambda.ensures ∙ rw kind)

pub same_named-requires-in-Some-Let : goal.same_named-requires-in-Some-Let
same_named-requires-in-Some-Let c =
    let kind = found_kind _ _ _ _ c.requires.kind_is c.in-Some-Let.field-0 Let c.in-Some-Let.is (rw c.in-Some-Let.is at c.in-Some-Let.field-0-is) in
    (c.requires.same, omega arith, omega arith, omega arith)

pub returns-in-Some-Let : goal.returns-in-Some-Let
returns-in-Some-Let c =
    let kind = found_kind _ _ _ _ c.requires.kind_is c.in-Some-Let.field-0 Let c.in-Some-Let.is (rw c.in-Some-Let.is at c.in-Some-Let.field-0-is) in
    say_named _ c.args.d c.args.c _ _ _ _ (λ e. omega arith) (λ e. omega arith) (λ e. omega arith) (λ e. omega arith)
    (omega arith) (c.same_named-in-Some-Let.ensures ∙ rw kind)

pub same_named-requires-in-Some-Proj : goal.same_named-requires-in-Some-Proj
same_named-requires-in-Some-Proj c =
    let kind = found_kind _ _ _ _ c.requires.kind_is c.in-Some-Proj.field-0 Proj c.in-Some-Proj.is (rw c.in-Some-Proj.is at c.in-Some-Proj.field-0-is) in
    (c.requires.same, omega arith, omega arith, omega arith)

pub returns-in-Some-Proj : goal.returns-in-Some-Proj
returns-in-Some-Proj c =
    let kind = found_kind _ _ _ _ c.requires.kind_is c.in-Some-Proj.field-0 Proj c.in-Some-Proj.is (rw c.in-Some-Proj.is at c.in-Some-Proj.field-0-is) in
    say_named _ c.args.d c.args.c _ _ _ _ (λ e. omega arith) (λ e. omega arith) (λ e. omega arith) (λ e. omega arith)
    (omega arith) (c.same_named-in-Some-Proj.ensures ∙ rw kind)

pub same_literal-requires : goal.same_literal-requires
same_literal-requires c =
    let kind = found_kind _ _ _ _ c.requires.kind_is c.in-Some-Nat.field-0 Nat c.in-Some-Nat.is (rw c.in-Some-Nat.is at c.in-Some-Nat.field-0-is) in
    (c.requires.same, omega arith)

pub returns-in-Some-Nat : goal.returns-in-Some-Nat
returns-in-Some-Nat c =
    let kind = found_kind _ _ _ _ c.requires.kind_is c.in-Some-Nat.field-0 Nat c.in-Some-Nat.is (rw c.in-Some-Nat.is at c.in-Some-Nat.field-0-is) in
    say_literal _ c.args.d c.args.c _ _ _ _ (λ e. omega arith) (λ e. omega arith) (λ e. omega arith) (λ e. omega arith) _ _
    refl refl (omega arith) c.same_literal.ensures

pub same_literal-requires-in-Some-String : goal.same_literal-requires-in-Some-String
same_literal-requires-in-Some-String c =
    let kind = found_kind _ _ _ _ c.requires.kind_is c.in-Some-String.field-0 String c.in-Some-String.is (rw c.in-Some-String.is at c.in-Some-String.field-0-is) in
    (c.requires.same, omega arith)

pub returns-in-Some-String : goal.returns-in-Some-String
returns-in-Some-String c =
    let kind = found_kind _ _ _ _ c.requires.kind_is c.in-Some-String.field-0 String c.in-Some-String.is (rw c.in-Some-String.is at c.in-Some-String.field-0-is) in
    say_literal _ c.args.d c.args.c _ _ _ _ (λ e. omega arith) (λ e. omega arith) (λ e. omega arith) (λ e. omega arith) _ _
    refl refl (omega arith) c.same_literal-in-Some-String.ensures

pub returns-in-None : goal.returns-in-None
returns-in-None c =
    let small = kind_small _ c.args.pool.now.sound _ c.requires.same.a_row in
    let past = rw c.in-None.is at c.requires.kind_is in
    absurd (omega arith)
