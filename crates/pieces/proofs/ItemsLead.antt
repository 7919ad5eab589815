-- Proofs: the items on the pile stay proper, and an item reaches what the items behind it reach.
use Rattle.std.proofs.Common.{◌≡◌, ℕ, Bool, true, false, not, ◌||◌, eqb, ◌≢◌, ◌⊎◌, List, [], ◌∷◌, sym, refl, ap, ◌∙◌, subst, inl, inr, arith}
use Rattle.std.specs.List.{AllByRecursion, flat_map}
use Rattle.std.proofs.lemmas.Bool.Decides.{nat_tests}
use Rattle.std.proofs.lemmas.Bool.{cases_eq, cases_Bool}
use Rattle.heap.specs.declared.atoms.Atom.{Atom}
use Rattle.heap.specs.declared.atoms.Atom.TheVariants.{Eq, Neq, Next, Lseg}
use Rattle.sheet.specs.Routines.{Command}
use Rattle.sheet.specs.Flow.{row_at}
use Rattle.pieces.specs.declared.shapes.Edge.TheVariants.{Dead}
use Rattle.pieces.specs.Pieces.{mem, State, Runs, here, Opening, Allowed}
use Rattle.pieces.specs.ModelChoices.{SomeOf, Has}
use Rattle.pieces.specs.ModelShapes.{Shape, Fits, SoundShape, set_name, add_node}
use Rattle.pieces.specs.ModelCover.{is_dead}
use Rattle.pieces.specs.ModelOpening.{place, add, bare, clash}
use Rattle.pieces.specs.ModelCases.{Case, onward, Leads}
use Rattle.pieces.specs.ModelStages.{Stage, placing, adding, linking, running, Item, item, placed, laid, afters, cleared, nothing_live, Saying, Apart, Proper, Kept, opened, item_hits, nexts_of, hits_of, Reaches}
use Rattle.pieces.proofs.Choices.{some_flat, flat_some, some_pull, some_map_all, all_flat, all_gather, all_fst}
use Rattle.pieces.proofs.RowsExact.{step_sound, sound_name, sound_apart, sound_cell}
use Rattle.pieces.proofs.CasesLead.{leads_to, leads_from, Decides}
use Rattle.pieces.proofs.LaySegment.{one_seg_sound}
use Rattle.pieces.proofs.AtomsAdded.{bare_sound, bare_fits}
use Rattle.pieces.proofs.StagesExact.{stages_exactly, skips}

-- items stay proper
abbrev Three : Atom → Type 0
Three (Eq x y) = Unit {0}
Three (Neq x y) = Unit {0}
Three (Next x y) = Unit {0}
Three (Lseg x y) = ⊥

add_sound : (a : Atom) (s : Shape) → Three a → SoundShape s → AllByRecursion (λ u. SoundShape u) (add a s)
add_sound (Eq x y) s t w = elim (cases_Bool (eqb (s.name x) (s.name y))) [ inl t ↦ rw t (w, tt) | inr t ↦ rw t tt ]
add_sound (Neq x y) s t w = elim (cases_Bool (eqb (s.name x) (s.name y))) [ inl t ↦ rw t tt | inr t ↦ rw t (w, tt) ]
add_sound (Next x y) s t w = elim (cases_Bool (eqb (s.name x) 0)) [
  | inl t ↦ rw t tt
  | inr t ↦ elim (cases_Bool (is_dead (s.edge (s.name x)))) [
    | inl d ↦ rw (t, d) (sound_cell s (s.name x) (s.name y) w (λ z. grind (arith, nat_tests)) (w.names_in y), tt)
    | inr d ↦ rw (t, d) tt
  ]
]
add_sound (Lseg x y) s t w = elim t [ ]

-- and have the row of the item before
abbrev Like : ℕ → Item → Type 0
Like r it = Kept it × (it.row ≡ r)

adds_kept : (l : List Atom) (r : ℕ) (a : Atom) (s : Shape) → Three a → SoundShape s → AllByRecursion (Like r) (flat_map (λ u. item (adding l) r u) (add a s))
adds_kept l r a s t w = all_flat (Like r) (λ u. SoundShape u) (λ u. item (adding l) r u) (λ u x. ((x, refl), tt)) (add a s) (add_sound a s t w)

placed_kept : (cs : List ℕ) (l : List Atom) (r : ℕ) (u : Shape) → Proper (placing cs l) u → AllByRecursion (Like r) (placed cs l r u)
placed_kept cs l r u x = elim (cases_Bool (clash cs u l)) [ inl t ↦ rw t tt | inr t ↦ rw t ((x, refl), tt) ]

place_kept : (c : ℕ) (cs : List ℕ) (l : List Atom) (r : ℕ) (s : Shape) → Proper (placing (c ∷ cs) l) s → AllByRecursion (Like r) (flat_map (placed cs l r) (place c s))
place_kept c cs l r s (w, dead, unplaced, ap) = all_flat (Like r) (Proper (placing cs l)) (placed cs l r) (placed_kept cs l r) (place c s) (
  (
    sound_name (add_node s Dead) c s.size (sound_apart s Dead w (λ t e. absurd (grind (arith, nat_tests))) (λ t e. absurd (grind (arith, nat_tests)))) (omega arith),
    (λ i. let x = dead i in grind (arith, nat_tests)),
    (λ n m. let x = unplaced n (grind (arith, nat_tests)) in let y = ap.0 in elim (cases_eq n c) [ inl e ↦ absurd (grind (arith, nat_tests)) | inr e ↦ grind (arith, nat_tests) ]),
    ap.1,
  ),
  all_gather (Proper (placing cs l)) s.size (λ o. set_name s c o ∷ []) (λ o q. (
    (
      sound_name s c o w q,
      dead,
      (λ n m. let x = unplaced n (grind (arith, nat_tests)) in let y = ap.0 in elim (cases_eq n c) [ inl e ↦ absurd (grind (arith, nat_tests)) | inr e ↦ grind (arith, nat_tests) ]),
      ap.1,
    ),
    tt,
  )),
)

links_kept : (i j : ℕ) (l : List Atom) (rows : List Command) (r : ℕ) (s : Shape) → Proper (linking i j l) s → AllByRecursion (Like r) (afters rows (linking i j l) r s)
links_kept i j l rows r s (w, p, q, n) = elim (cases_Bool (eqb i 0 || not (is_dead (s.edge i)))) [
  | inl t ↦ rw t tt
  | inr t ↦
      let z : i ≢ 0 = (λ e. grind (arith, nat_tests)) in
      rw t (
        (one_seg_sound s.size s.name s.edge i j z n q w, refl),
        all_gather (Like r) s.size (laid s i j l r) (λ o lt. elim (cases_Bool (skips s i j o)) [
          | inl b ↦ rw b tt
          | inr b ↦ rw b (((one_seg_sound s.size s.name s.edge i o z (λ g. grind (arith, nat_tests)) lt w, lt, q, (λ g. grind (arith, nat_tests))), refl), tt)
        ]),
      )
]

kept : (rows : List Command) (t : Stage) (r : ℕ) (s : Shape) → t ≢ running → Proper t s → AllByRecursion (Like r) (afters rows t r s)
kept rows (placing [] l) r s n g = ((g.0, refl), tt)
kept rows (placing (c ∷ cs) l) r s n g = place_kept c cs l r s g
kept rows (adding []) r s n w = ((w, refl), tt)
kept rows (adding (Eq x y ∷ l)) r s n w = adds_kept l r (Eq x y) s tt w
kept rows (adding (Neq x y ∷ l)) r s n w = adds_kept l r (Neq x y) s tt w
kept rows (adding (Next x y ∷ l)) r s n w = adds_kept l r (Next x y) s tt w
kept rows (adding (Lseg x y ∷ l)) r s n w = elim (cases_eq (s.name x) (s.name y)) [
  | inl e ↦ let b : eqb (s.name x) (s.name y) ≡ true = grind (arith, nat_tests) in rw b ((w, refl), tt)
  | inr e ↦ let b : eqb (s.name x) (s.name y) ≡ false = grind (arith, nat_tests) in rw b (((w, w.names_in x, w.names_in y, e), refl), tt)
]
kept rows (linking i j l) r s n g = links_kept i j l rows r s g
kept rows running r s n g = absurd (n refl)

runs_kept : (rows : List Command) (r : ℕ) (s : Shape) → SoundShape s → AllByRecursion Kept (afters rows running r s)
runs_kept rows r s w = all_flat Kept (λ c. SoundShape c.shape) (λ c. item running c.row c.shape) (λ c x. (x, tt)) (onward rows (record { row = r; shape = s })) (step_sound (row_at rows r) s r w)

pub keeps_items : (rows : List Command) (t : Stage) (n : ℕ) (s : Shape) → Proper t s → AllByRecursion Kept (afters rows t n s)
keeps_items rows (placing cs l) n s g = all_fst Kept (λ it. it.row ≡ n) (afters rows (placing cs l) n s) (kept rows (placing cs l) n s (λ e. grind (arith, nat_tests)) g)
keeps_items rows (adding l) n s g = all_fst Kept (λ it. it.row ≡ n) (afters rows (adding l) n s) (kept rows (adding l) n s (λ e. grind (arith, nat_tests)) g)
keeps_items rows (linking i j l) n s g = all_fst Kept (λ it. it.row ≡ n) (afters rows (linking i j l) n s) (kept rows (linking i j l) n s (λ e. grind (arith, nat_tests)) g)
keeps_items rows running n s g = runs_kept rows n s g

-- the state g is one of the item's, at a row
abbrev pub At : Stage → ℕ → Shape → State → Type 0
At (placing cs l) r s g = ⊥
At (adding l) r s g = ⊥
At (linking i j l) r s g = ⊥
At running r s g = (g.row ≡ r) × Fits s g.env g.heap

module _ (rows : List Command) (g : State) where
  -- before the rows
  early_down : (t : Stage) (n : ℕ) (s : Shape) → t ≢ running → Proper t s → Reaches rows g (record { stage = t; row = n; shape = s }) → SomeOf (Reaches rows g) (afters rows t n s)
  early_down t n s ne k (st, e, S, R) =
      some_map_all (Like n) (Saying st.env st.heap) (Reaches rows g) (λ it o x. (st, e ∙ sym o.1, x, R)) (afters rows t n s) (kept rows t n s ne k)
      ((stages_exactly rows t n s st.env st.heap ne k).0 S)

  abbrev Rest : ℕ → Type 0
  Rest n = (s : State) × Runs rows g s × (s.row ≡ n)

  early_up : (t : Stage) (n : ℕ) (s : Shape) → t ≢ running → Proper t s → SomeOf (Reaches rows g) (afters rows t n s) → Reaches rows g (record { stage = t; row = n; shape = s })
  early_up t n s ne k S =
      let x = some_pull (λ (d : Rest n) it. Saying d.0.env d.0.heap it) (afters rows t n s)
      (some_map_all (Like n) (Reaches rows g) (λ it. (d : Rest n) × Saying d.0.env d.0.heap it) (λ it o y. ((y.0, y.3, y.1 ∙ o.1), y.2)) (afters rows t n s) (kept rows t n s ne k) S) in
      (x.0.0, x.0.2, (stages_exactly rows t n s x.0.0.env x.0.0.heap ne k).1 x.1, x.0.1)

  -- at the rows
  abbrev at_rows : Case → List Item
  at_rows c = item running c.row c.shape

  late_down : (n : ℕ) (s : Shape) → SoundShape s → Reaches rows g (record { stage = running; row = n; shape = s }) → At running n s g ⊎ SomeOf (Reaches rows g) (afters rows running n s)
  late_down n s w (st, e, S, R) =
      let c : Case = record { row = n; shape = s } in
      elim (leads_to rows g c w (st, (e, S), R)) [
        | inl a ↦ inl a
        | inr b ↦ inr (some_flat (Reaches rows g) (Leads rows g) at_rows (λ a l. inl (l.0, l.1.0, l.1.1, l.2)) (onward rows c) b)
      ]

  late_up : (n : ℕ) (s : Shape) → SoundShape s → SomeOf (Reaches rows g) (afters rows running n s) → Reaches rows g (record { stage = running; row = n; shape = s })
  late_up n s w S =
      let c : Case = record { row = n; shape = s } in
      let l = leads_from rows g c w (flat_some (Reaches rows g) (Leads rows g) at_rows (λ a. elim [ inl l ↦ (l.0, (l.1, l.2), l.3) | inr b ↦ absurd b ]) (onward rows c) S) in
      (l.0, l.1.0, l.1.1, l.2)

  down : (t : Stage) (n : ℕ) (s : Shape) → Proper t s → Reaches rows g (record { stage = t; row = n; shape = s }) → At t n s g ⊎ SomeOf (Reaches rows g) (afters rows t n s)
  down (placing cs l) n s k x = inr (early_down (placing cs l) n s (λ e. grind (arith, nat_tests)) k x)
  down (adding l) n s k x = inr (early_down (adding l) n s (λ e. grind (arith, nat_tests)) k x)
  down (linking i j l) n s k x = inr (early_down (linking i j l) n s (λ e. grind (arith, nat_tests)) k x)
  down running n s k x = late_down n s k x

  up : (t : Stage) (n : ℕ) (s : Shape) → Proper t s → SomeOf (Reaches rows g) (afters rows t n s) → Reaches rows g (record { stage = t; row = n; shape = s })
  up (placing cs l) n s k x = early_up (placing cs l) n s (λ e. grind (arith, nat_tests)) k x
  up (adding l) n s k x = early_up (adding l) n s (λ e. grind (arith, nat_tests)) k x
  up (linking i j l) n s k x = early_up (linking i j l) n s (λ e. grind (arith, nat_tests)) k x
  up running n s k x = late_up n s k x

  pub reaches_down : (it : Item) → Kept it → Reaches rows g it → At it.stage it.row it.shape g ⊎ SomeOf (Reaches rows g) (nexts_of rows it)
  reaches_down it k x = down it.stage it.row it.shape k x

  pub reaches_up : (it : Item) → Kept it → SomeOf (Reaches rows g) (nexts_of rows it) → Reaches rows g it
  reaches_up it k x = up it.stage it.row it.shape k x

-- what the tests find at an item
module _ (P S : Command → State → Type 0) (test : Command → Shape → Bool) (D : Decides P S test) (rows : List Command) where
  clear_at : (t : Stage) (n : ℕ) (s : Shape) (g : State) → Proper t s → At t n s g → Has g.row (item_hits test rows t n s) ⊎ S (row_at rows g.row) g
  clear_at (placing cs l) n s g k a = absurd a
  clear_at (adding l) n s g k a = absurd a
  clear_at (linking i j l) n s g k a = absurd a
  clear_at running n s g k (e, F) = elim (cases_Bool (test (row_at rows n) s)) [
    | inl b ↦ inl (rw b (inl (sym e)))
    | inr b ↦ inr (D.clear (row_at rows g.row) s g k F (subst (λ r. test (row_at rows r) s ≡ false) (sym e) b))
  ]

  there_at : (t : Stage) (n : ℕ) (s : Shape) (r : ℕ) → Proper t s → Has r (item_hits test rows t n s) → (g : State) × (g.row ≡ r) × P (row_at rows r) g × Reaches rows g (record { stage = t; row = n; shape = s })
  there_at (placing cs l) n s r k h = absurd h
  there_at (adding l) n s r k h = absurd h
  there_at (linking i j l) n s r k h = absurd h
  there_at running n s r k h = elim (cases_Bool (test (row_at rows n) s)) [
    | inr b ↦ absurd (rw b at h)
    | inl b ↦ elim (rw b at h) [
      | inr z ↦ absurd z
      | inl e ↦ let x = D.there (row_at rows n) s n k b in (x.0, x.1 ∙ e, subst (λ m. P (row_at rows m) x.0) e x.3, (x.0, x.1, x.2, here))
    ]
  ]

  pub hit_or_clear : (it : Item) (g : State) → Kept it → At it.stage it.row it.shape g → Has g.row (hits_of test rows it) ⊎ S (row_at rows g.row) g
  hit_or_clear it g k a = clear_at it.stage it.row it.shape g k a

  pub hit_there : (it : Item) (r : ℕ) → Kept it → Has r (hits_of test rows it) → (g : State) × (g.row ≡ r) × P (row_at rows r) g × Reaches rows g it
  hit_there it r k h = there_at it.stage it.row it.shape r k h

-- the item of an opening says what the opening allows
no_names : (names : List ℕ) (env : ℕ → ℕ) → ((n : ℕ) → mem n names ≡ false → env n ≡ 0) → Fits bare (cleared names env) nothing_live
no_names names env far = bare_fits (cleared names env) (λ n. elim (cases_Bool (mem n names)) [ inl t ↦ rw t | inr t ↦ rw t (far n t) ])

names_no : (names : List ℕ) (env : ℕ → ℕ) → Fits bare (cleared names env) nothing_live → (n : ℕ) → mem n names ≡ false → env n ≡ 0
names_no names env F n q = let a = F.named n in let z = F.model.nil in grind (arith, nat_tests)

module _ (rows : List Command) (g : State) (o : Opening) where
  pub opened_to : (s : State) → Allowed o s → Runs rows g s → Reaches rows g (opened o)
  opened_to s A R = (s, A.first, (no_names o.names s.env A.far, A.holds), R)

  pub opened_from : Reaches rows g (opened o) → (s : State) × Allowed o s × Runs rows g s
  opened_from (s, e, S, R) = (s, record { first = e; far = names_no o.names s.env S.0; holds = S.1 }, R)

pub opened_kept : (o : Opening) → Apart o.names → Kept (opened o)
opened_kept o a = (bare_sound, (λ i. refl), (λ n q. refl), a)
