-- Meaning: the kinds of lines, the number of each, and what each of its columns may hold. Assumes nothing.
use Rattle.std.specs.Prelude.{ℕ, Bool, not, ◌&&◌, ◌||◌, List, [], ◌∷◌, Option, ◌==◌, nat_le, find}
use Rattle.layout.specs.declared.lines.Six.{Six}
use Rattle.sheet.specs.declared.kinds.Kind.{Kind}
use Rattle.sheet.specs.declared.kinds.Kind.TheVariants.{Head, Before, After, Equal, Unequal, Cell, Segment, Set, Load, Store, New, Free, Jump, Branch, Cut, Call, Done}
use Rattle.sheet.specs.declared.kinds.Role.{Role}
use Rattle.sheet.specs.declared.kinds.Role.TheVariants as role
use Rattle.sheet.specs.declared.kinds.Class.{Class}
use Rattle.sheet.specs.declared.kinds.Class.TheVariants.{Unused, RoutineNumber, VariableCount, ArgumentCount, GhostCount, RowCount, Variable, Value, Target, Named}
use Rattle.sheet.specs.declared.kinds.Entry.{Entry}
use Rattle.sheet.specs.declared.kinds.Scope.{Scope}

-- the number that a line of the kind begins with
abbrev pub code_of : Kind → ℕ
code_of Head = 1
code_of Before = 2
code_of After = 3
code_of Equal = 11
code_of Unequal = 12
code_of Cell = 13
code_of Segment = 14
code_of Set = 21
code_of Load = 22
code_of Store = 23
code_of New = 24
code_of Free = 25
code_of Jump = 26
code_of Branch = 27
code_of Cut = 28
code_of Call = 29
code_of Done = 30

abbrev columns : Class → Class → Class → Class → Class → Class → Six Class
columns a b c d e f = record { first = a; second = b; third = c; fourth = d; fifth = e; sixth = f }

-- what the six columns behind the kind may hold
abbrev pub classes_of : Kind → Six Class
classes_of Head = columns RoutineNumber VariableCount ArgumentCount GhostCount RowCount Unused
classes_of Before = columns Unused Unused Unused Unused Unused Unused
classes_of After = columns Unused Unused Unused Unused Unused Unused
classes_of Equal = columns Named Named Unused Unused Unused Unused
classes_of Unequal = columns Named Named Unused Unused Unused Unused
classes_of Cell = columns Named Named Unused Unused Unused Unused
classes_of Segment = columns Named Named Unused Unused Unused Unused
classes_of Set = columns Variable Value Unused Unused Unused Unused
classes_of Load = columns Variable Variable Unused Unused Unused Unused
classes_of Store = columns Variable Value Unused Unused Unused Unused
classes_of New = columns Variable Unused Unused Unused Unused Unused
classes_of Free = columns Variable Unused Unused Unused Unused Unused
classes_of Jump = columns Target Unused Unused Unused Unused Unused
classes_of Branch = columns Value Value Target Unused Unused Unused
classes_of Cut = columns Unused Unused Unused Unused Unused Unused
classes_of Call = columns Variable RoutineNumber Value Value Named Named
classes_of Done = columns Unused Unused Unused Unused Unused Unused

-- the part of a sheet that a line of the kind belongs to
abbrev pub role_of : Kind → Role
role_of Head = role.Head
role_of Before = role.Before
role_of After = role.After
role_of Equal = role.Atom
role_of Unequal = role.Atom
role_of Cell = role.Atom
role_of Segment = role.Atom
role_of Set = role.Row
role_of Load = role.Row
role_of Store = role.Row
role_of New = role.Row
role_of Free = role.Row
role_of Jump = role.Row
role_of Branch = role.Row
role_of Cut = role.Row
role_of Call = role.Row
role_of Done = role.Row

-- rows 22 to 25 weigh 1
abbrev pub weight_of : Kind → ℕ
weight_of Head = 0
weight_of Before = 0
weight_of After = 0
weight_of Equal = 0
weight_of Unequal = 0
weight_of Cell = 0
weight_of Segment = 0
weight_of Set = 0
weight_of Load = 1
weight_of Store = 1
weight_of New = 1
weight_of Free = 1
weight_of Jump = 0
weight_of Branch = 0
weight_of Cut = 0
weight_of Call = 0
weight_of Done = 0

abbrev pub entry_of : Kind → Entry
entry_of k = record { code = code_of k; kind = k; role = role_of k; classes = classes_of k; weight = weight_of k }

abbrev pub entries : List Kind → List Entry
entries [] = []
entries (k ∷ ks) = entry_of k ∷ entries ks

abbrev pub kinds : List Kind
kinds = Head ∷ Before ∷ After ∷ Equal ∷ Unequal ∷ Cell ∷ Segment ∷ Set ∷ Load ∷ Store ∷ New ∷ Free ∷ Jump ∷ Branch ∷ Cut ∷ Call ∷ Done ∷ []

abbrev pub table : List Entry
table = entries kinds

-- the first row of a table that has the number
abbrev pub entry_for : ℕ → List Entry → Option Entry
entry_for n es = find (λ e. e.code == n) es

-- nil, one of the variables that may be named, or a ghost that there is
abbrev pub nameable : Scope → ℕ → Bool
nameable s n = n == 0 || ((nat_le n s.named && not (n == s.except)) || ((n == 7 && nat_le 1 s.ghosts) || (n == 8 && nat_le 2 s.ghosts)))

-- whether a column of the class may hold the number
abbrev pub allowed : Scope → Class → ℕ → Bool
allowed s Unused n = n == 0
allowed s RoutineNumber n = nat_le n 15
allowed s VariableCount n = nat_le 1 n && nat_le n 6
allowed s ArgumentCount n = nat_le n 2 && nat_le n s.variables
allowed s GhostCount n = nat_le n 2
allowed s RowCount n = nat_le 1 n && nat_le n 40
allowed s Variable n = nat_le 1 n && nat_le n s.variables
allowed s Value n = nat_le n s.variables
allowed s Target n = nat_le 1 n && nat_le n s.rows
allowed s Named n = nameable s n

-- whether all six columns do
abbrev pub fits : Scope → Six Class → Six ℕ → Bool
fits s c v =
    allowed s c.first v.first && (allowed s c.second v.second && (allowed s c.third v.third
    && (allowed s c.fourth v.fourth && (allowed s c.fifth v.fifth && allowed s c.sixth v.sixth))))
