-- The columns of a line that fits its kind: those that the kind leaves unused hold 0, and each number is short.
use Rattle.std.proofs.Common.{◌≡◌, ℕ, ◌<◌, ◌≤◌, true, refl, arith}
use Rattle.std.proofs.lemmas.Bool.{eqb-true}
use Rattle.std.proofs.lemmas.Bool.Decides.{nat_tests}
use Rattle.layout.specs.declared.lines.Six.{Six}
use Rattle.layout.specs.Lines.{Short}
use Rattle.sheet.specs.declared.kinds.Kind.{Kind}
use Rattle.sheet.specs.declared.kinds.Kind.TheVariants.{Head, Before, After, Equal, Unequal, Cell, Segment, Set, Load, Store, New, Free, Jump, Branch, Cut, Call, Done}
use Rattle.sheet.specs.declared.kinds.Class.{Class}
use Rattle.sheet.specs.declared.kinds.Class.TheVariants.{Unused, RoutineNumber, VariableCount, ArgumentCount, GhostCount, RowCount, Variable, Value, Target, Named}
use Rattle.sheet.specs.declared.kinds.Scope.{Scope}
use Rattle.sheet.specs.Kinds.{code_of, allowed, fits}
use Rattle.sheet.specs.Written.{six, line_as}
use Rattle.sheet.proofs.KindsKnown.{fitting}

-- what a column of the class keeps of a number
abbrev pub keeps : Class → ℕ → ℕ
keeps Unused n = 0
keeps RoutineNumber n = n
keeps VariableCount n = n
keeps ArgumentCount n = n
keeps GhostCount n = n
keeps RowCount n = n
keeps Variable n = n
keeps Value n = n
keeps Target n = n
keeps Named n = n

abbrev pub kept_by : Six Class → Six ℕ → Six ℕ
kept_by c v = six (keeps c.first v.first) (keeps c.second v.second) (keeps c.third v.third) (keeps c.fourth v.fourth) (keeps c.fifth v.fifth) (keeps c.sixth v.sixth)

same_six : (a b c d e f g h i j k l : ℕ) → a ≡ g → b ≡ h → c ≡ i → d ≡ j → e ≡ k → f ≡ l → six a b c d e f ≡ six g h i j k l
same_six a b c d e f g h i j k l p q r s t u = cc

small_code : (k : Kind) → code_of k < 10000
small_code Head = omega arith
small_code Before = omega arith
small_code After = omega arith
small_code Equal = omega arith
small_code Unequal = omega arith
small_code Cell = omega arith
small_code Segment = omega arith
small_code Set = omega arith
small_code Load = omega arith
small_code Store = omega arith
small_code New = omega arith
small_code Free = omega arith
small_code Jump = omega arith
small_code Branch = omega arith
small_code Cut = omega arith
small_code Call = omega arith
small_code Done = omega arith

module _ (s : Scope) where
  kept_one : (c : Class) (n : ℕ) → allowed s c n ≡ true → n ≡ keeps c n
  kept_one Unused n h = eqb-true n 0 h
  kept_one RoutineNumber n h = refl
  kept_one VariableCount n h = refl
  kept_one ArgumentCount n h = refl
  kept_one GhostCount n h = refl
  kept_one RowCount n h = refl
  kept_one Variable n h = refl
  kept_one Value n h = refl
  kept_one Target n h = refl
  kept_one Named n h = refl

  pub columns_kept : (c : Six Class) (v : Six ℕ) → fits s c v ≡ true → v ≡ kept_by c v
  columns_kept c v h =
      let f = fitting s c v h in
      same_six _ _ _ _ _ _ _ _ _ _ _ _ (kept_one c.first v.first f.first) (kept_one c.second v.second f.second) (kept_one c.third v.third f.third)
      (kept_one c.fourth v.fourth f.fourth) (kept_one c.fifth v.fifth f.fifth) (kept_one c.sixth v.sixth f.sixth)

  module _ (few : s.variables ≤ 6) (rows : s.rows ≤ 40) (names : s.named ≤ 6) where
    small_one : (c : Class) (n : ℕ) → allowed s c n ≡ true → n < 10000
    small_one Unused n h = grind (arith, nat_tests)
    small_one RoutineNumber n h = grind (arith, nat_tests)
    small_one VariableCount n h = grind (arith, nat_tests)
    small_one ArgumentCount n h = grind (arith, nat_tests)
    small_one GhostCount n h = grind (arith, nat_tests)
    small_one RowCount n h = grind (arith, nat_tests)
    small_one Variable n h = grind (arith, nat_tests)
    small_one Value n h = grind (arith, nat_tests)
    small_one Target n h = grind (arith, nat_tests)
    small_one Named n h = grind (arith, nat_tests)

    pub line_short : (k : Kind) (c : Six Class) (v : Six ℕ) → fits s c v ≡ true → Short (line_as k v)
    line_short k c v h =
        let f = fitting s c v h in
        record {
          kind = small_code k;
          first = small_one c.first v.first f.first;
          second = small_one c.second v.second f.second;
          third = small_one c.third v.third f.third;
          fourth = small_one c.fourth v.fourth f.fourth;
          fifth = small_one c.fifth v.fifth f.fifth;
          sixth = small_one c.sixth v.sixth f.sixth;
        }
