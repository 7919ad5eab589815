-- Proofs: before the rows, an item says what the items behind it say.
use Rattle.std.proofs.Common.{◌≡◌, ℕ, ◌<◌, Bool, true, false, not, ◌||◌, eqb, ◌≢◌, ◌⊎◌, List, [], ◌∷◌, sym, refl, ap, ◌∙◌, subst, inl, inr, arith}
use Rattle.std.specs.List.{flat_map}
use mathlib.Core.Path.{fun_ext}
use Rattle.std.proofs.lemmas.Bool.Decides.{nat_tests}
use Rattle.std.proofs.lemmas.Bool.{cases_eq, cases_Bool}
use Rattle.heap.specs.Heaps.{Heap, Split, IsLseg, done as ended, without}
use Rattle.pieces.specs.ModelRuns.{minus, Run}
use Rattle.pieces.specs.Pieces.{mem}
use Rattle.pieces.specs.declared.shapes.Edge.{Edge}
use Rattle.pieces.specs.declared.shapes.Edge.TheVariants.{Dead, Segment}
use Rattle.pieces.specs.Pieces.{put}
use Rattle.pieces.specs.ModelShapes.{Model, Shape, Fits, SoundShape, set_name, add_node}
use Rattle.heap.specs.declared.atoms.Atom.{Atom}
use Rattle.heap.specs.declared.atoms.Atom.TheVariants.{Eq, Neq, Next, Lseg}
use Rattle.heap.specs.Lists.{Holds}
use Rattle.pieces.specs.ModelCover.{is_dead}
use Rattle.pieces.specs.ModelChoices.{SomeOf}
use Rattle.pieces.specs.ModelOpening.{place, add, clashes, clash}
use Rattle.sheet.specs.Routines.{Command}
use Rattle.pieces.specs.ModelStages.{placing, adding, linking, running, item, placed, laid, afters, cleared, nothing_live, Says, Saying, StagesExactly}
use Rattle.pieces.proofs.ShapeModels.{cases_edge, val_apart, run_first, take, widen, narrow}
use Rattle.pieces.proofs.SegmentRuns.{split_comm, union, split_assoc, lseg_run, run_lseg}
use Rattle.pieces.proofs.ShapeSteps.{find_val, run_end}
use Rattle.pieces.proofs.CoverExact.{nothing, all_dead_from}
use Rattle.pieces.proofs.LaySegment.{FirstNode, first_node, open_last, with_k, from_k, close_via, dead_on, off_zero, k, apart_k, f, on_xs, run_nonzero}
use Rattle.pieces.proofs.Choices.{some_gather, gather_some, some_flat, flat_some, some_pull}
use Rattle.pieces.proofs.RowsExact.{sound_name, sound_apart}
use Rattle.pieces.proofs.AtomsAdded.{eq_to, eq_from, neq_to, neq_from, next_to, next_from}

-- parts of parts
regroup_to : (h g k a b : Heap) → Split h g k → Split k a b → (g' : Heap) × Split g' a g × Split h g' b
regroup_to h g k a b s t = let x = split_assoc h g k a b s t in (union g a, split_comm (union g a) g a x.1, x.0)

regroup_from : (h g' b a g : Heap) → Split h g' b → Split g' a g → (k : Heap) × Split h g k × Split k a b
regroup_from h g' b a g s t =
    let x = split_assoc h b g' a g (split_comm h g' b s) t in
    (union b a, split_comm h (union b a) g x.0, split_comm (union b a) b a x.1)

module _ (rows : List Command) (r : ℕ) (env : ℕ → ℕ) (h : Heap) where
  -- atoms that are added by `add`
  abbrev Parted : List Atom → Type 0
  Parted l = (g : Heap) × (k : Heap) × Split h g k × Holds env l k

  add_to : (a : Atom) (l : List Atom) (s : Shape) (d : Parted l) → SomeOf (λ u. Fits u env d.0) (add a s) → SomeOf (Saying env h) (flat_map (λ u. item (adding l) r u) (add a s))
  add_to a l s (g, k, sp, H) S = some_flat (Saying env h) (λ u. Fits u env g) (λ u. item (adding l) r u) (λ u F. inl (g, k, sp, F, H)) (add a s) S

  add_from : (a : Atom) (l : List Atom) (s : Shape) → SomeOf (Saying env h) (flat_map (λ u. item (adding l) r u) (add a s)) → (d : Parted l) × SomeOf (λ u. Fits u env d.0) (add a s)
  add_from a l s S = some_pull (λ (d : Parted l) u. Fits u env d.0) (add a s)
      (flat_some (Saying env h) (λ u. (d : Parted l) × Fits u env d.0) (λ u. item (adding l) r u) (λ u. elim [ inl (g, k, sp, F, H) ↦ ((g, k, sp, H), F) | inr n ↦ absurd n ]) (add a s) S)

  adds_to : (l : List Atom) (s : Shape) → SoundShape s → Says (adding l) s env h → SomeOf (Saying env h) (afters rows (adding l) r s)
  adds_to [] s w (g, k, sp, F, H) = inl (subst (λ q. Fits s env q) (fun_ext (λ a. let x = sp a in let y = H a in grind (arith, nat_tests))) F)
  adds_to (Eq x y ∷ l) s w (g, k, sp, F, (e, H)) = add_to (Eq x y) l s (g, k, sp, H) (eq_to env x y s w g e F)
  adds_to (Neq x y ∷ l) s w (g, k, sp, F, (e, H)) = add_to (Neq x y) l s (g, k, sp, H) (neq_to env x y s w g e F)
  adds_to (Next x y ∷ l) s w (g, k, sp, F, (a, b, t, C, H)) =
      let x = regroup_to h g k a b sp t in add_to (Next _ _) l s (x.0, b, x.2, H) (next_to env _ _ s w x.0 a g x.1 C F)
  adds_to (Lseg x y ∷ l) s w (g, k, sp, F, (a, b, t, L, H)) =
      let z = regroup_to h g k a b sp t in
      let u = lseg_run z.0 g z.1 (rw (F.named x, F.named y) at L) in
      elim (cases_eq (s.name x) (s.name y)) [
        | inl e ↦
            let q : eqb (s.name x) (s.name y) ≡ true = grind (arith, nat_tests) in
            let none-taken = run_end u.run (ap F.val e) in
            rw q (inl (z.0, b, z.2, subst (λ p. Fits s env p) (fun_ext (λ c. u.left c ∙ ap (λ v. minus z.0 v c) none-taken)) F, H))
        | inr n ↦
            let q : eqb (s.name x) (s.name y) ≡ false = grind (arith, nat_tests) in
            let M : Model s.size s.edge F.val (minus z.0 u.cells) = subst (λ p. Model s.size s.edge F.val p) (fun_ext u.left) F.model in
            rw q (inl (z.0, b, z.2, H, u.cells, record { val = F.val; model = M; named = F.named }, u.run))
      ]

  adds_from : (l : List Atom) (s : Shape) → SoundShape s → SomeOf (Saying env h) (afters rows (adding l) r s) → Says (adding l) s env h
  adds_from [] s w (inl F) = (h, nothing_live, (λ a. inl (refl, refl)), F, λ a. refl)
  adds_from [] s w (inr n) = absurd n
  adds_from (Eq x y ∷ l) s w S = let d = add_from (Eq x y) l s S in let e = eq_from env x y s w d.0.0 d.1 in (d.0.0, d.0.1, d.0.2, e.1, (e.0, d.0.3))
  adds_from (Neq x y ∷ l) s w S = let d = add_from (Neq x y) l s S in let e = neq_from env x y s w d.0.0 d.1 in (d.0.0, d.0.1, d.0.2, e.1, (e.0, d.0.3))
  adds_from (Next x y ∷ l) s w S =
      let d = add_from (Next x y) l s S in let e = next_from env x y s w d.0.0 d.1 in
      let z = regroup_from h d.0.0 d.0.1 e.0.0 e.0.1 d.0.2 e.0.2 in
      (e.0.1, z.0, z.1, e.1, (e.0.0, d.0.1, z.2, e.0.3, d.0.3))
  adds_from (Lseg x y ∷ l) s w S = elim (cases_eq (s.name x) (s.name y)) [
    | inl e ↦ let q : eqb (s.name x) (s.name y) ≡ true = grind (arith, nat_tests) in elim (rw q at S) [
      | inr n ↦ absurd n
      | inl (g, k, sp, F, H) ↦ (g, k, sp, F, (nothing_live, k, (λ a. inr (refl, refl)), subst (λ v. IsLseg nothing_live (env x) v) (F.named x ∙ ap F.val e ∙ sym (F.named y)) (ended (λ a. refl)), H))
    ]
    | inr n ↦ let q : eqb (s.name x) (s.name y) ≡ false = grind (arith, nat_tests) in elim (rw q at S) [
      | inr b ↦ absurd b
      | inl (g, k, sp, H, xs, F, R) ↦
          let u = run_lseg R in
          let z = regroup_from h g k u.0 (minus g xs) sp u.1 in
          (minus g xs, z.0, z.1, F, (u.0, k, z.2, rw (F.named x, F.named y) u.2, H))
    ]
  ]

abbrev pub skips : Shape → ℕ → ℕ → ℕ → Bool
skips s i j k = eqb k i || (eqb k j || (eqb k 0 || not (is_dead (s.edge k))))

-- one step of a segment that is laid over the nodes
module _ (m : ℕ) (val : ℕ → ℕ) (g : Heap) (edge : ℕ → Edge) (i j : ℕ) (xs : List ℕ) (p : i < m) (q : j < m) (d : val i ≢ val j) (M : Model m edge val (minus g xs)) (R : Run g (val i) (val j) xs) where
  guard : (eqb i 0 || not (is_dead (edge i))) ≡ false
  guard = let e = dead_on m val g edge i j xs p q d M R i p (run_first R d) in let n = off_zero m val g edge i j xs p q d M R in let z : eqb i 0 ≡ false = grind (arith, nat_tests) in rw (z, e)

  abbrev Via : Type 0
  Via = (n : ℕ) × (n < m) × (n ≢ i) × (n ≢ j) × (n ≢ 0) × (edge n ≡ Dead) × (ys : List ℕ) × Model m (put edge i (Segment n)) val (minus g ys) × Run g (val n) (val j) ys

  on_run : (F : FirstNode m val (without g (val i)) (f m val g edge i j xs p q d M R).next (val j) (f m val g edge i j xs p q d M R).rest) → mem (val F.node) xs ≡ true
  on_run F = on_xs m val g edge i j xs p q d M R F

  lay : Model m (put edge i (Segment j)) val g ⊎ Via
  unfolding k f
  lay = elim (first_node m val (f m val g edge i j xs p q d M R).goes_on) [
    | inl none_in ↦ inl (open_last m val g edge i j xs p q d M R none_in)
    | inr F ↦ inr (
      F.node,
      F.in_m,
      (λ e. apart_k m val g edge i j xs p q d M R F (ap val (sym e))),
      (λ e. F.not_end (ap val e)),
      (λ e. let y = run_nonzero R in let z = M.nil in let o = on_run F in let v : val F.node ≡ 0 = cc in grind (arith, nat_tests)),
      dead_on m val g edge i j xs p q d M R F.node F.in_m (on_run F),
      F.after,
      with_k m val g edge i j xs p q d M R F,
      from_k m val g edge i j xs p q d M R F,
    )
  ]

module _ (rows : List Command) (r : ℕ) (env : ℕ → ℕ) (h : Heap) (i j : ℕ) (l : List Atom) (s : Shape) (w : SoundShape s) (p : i < s.size) (q : j < s.size) (n : i ≢ j) where
  links_to : Says (linking i j l) s env h → SomeOf (Saying env h) (afters rows (linking i j l) r s)
  links_to (g, b, sp, H, xs, F, R) =
      let d = val_apart s.size s.edge F.val (minus g xs) F.model i j p q n in
      rw (guard s.size F.val g s.edge i j xs p q d F.model R) (elim (lay s.size F.val g s.edge i j xs p q d F.model R) [
        | inl M ↦ inl (g, b, sp, record { val = F.val; model = M; named = F.named }, H)
        | inr (o, lt, oi, oj, oz, od, ys, M, S) ↦ inr (some_gather (Saying env h) s.size (laid s i j l r) o lt
            (let t : skips s i j o ≡ false = (let x : eqb o i ≡ false = grind (arith, nat_tests) in let y : eqb o j ≡ false = grind (arith, nat_tests) in let z : eqb o 0 ≡ false = grind (arith, nat_tests) in rw (x, y, z, od)) in rw t (inl (g, b, sp, H, ys, record { val = F.val; model = M; named = F.named }, S))))
      ])

  links_from : SomeOf (Saying env h) (afters rows (linking i j l) r s) → Says (linking i j l) s env h
  links_from S = elim (cases_Bool (eqb i 0 || not (is_dead (s.edge i)))) [
    | inl t ↦ absurd (rw t at S)
    | inr t ↦
        let e : s.edge i ≡ Dead = (elim (cases_edge (s.edge i)) [ inl e ↦ e | inr e ↦ absurd (grind (arith, nat_tests)) ]) in
        elim (rw t at S) [
          | inl (g, b, sp, F, H) ↦
              let M = F.model in let c = M.seg i j p (grind (arith, nat_tests)) in
              (g, b, sp, H, M.run i, record { val = F.val; named = F.named; model = take s.size (put s.edge i (Segment j)) F.val g M i p s.edge e (λ a o. grind (arith, nat_tests)) }, c.1)
          | inr G ↦ let y = gather_some (Saying env h) s.size (laid s i j l r) G in back e y.0 y.1 y.2
        ]
  ]
    where
      back : s.edge i ≡ Dead → (o : ℕ) → o < s.size → SomeOf (Saying env h) (laid s i j l r o) → Says (linking i j l) s env h
      back e o lt T = elim (cases_Bool (skips s i j o)) [
        | inl t ↦ absurd (rw t at T)
        | inr t ↦ elim (rw t at T) [
          | inr z ↦ absurd z
          | inl (g, b, sp, H, xs, F, R) ↦
              let c = close_via s.size F.val g s.edge i j o p q n e xs R F.model in
              (g, b, sp, H, c.cells, record { val = F.val; named = F.named; model = c.model }, c.run)
        ]
      ]

-- where a list holds, none of its atoms is false
module _ (cs : List ℕ) (u : Shape) (env : ℕ → ℕ) (w : SoundShape u) (F : Fits u (cleared cs env) nothing_live) where
  value_at : (x : ℕ) → mem x cs ≡ false → env x ≡ F.val (u.name x)
  value_at x t = let a = F.named x in grind (arith, nat_tests)

  eq_stands : (x y : ℕ) → env x ≡ env y → clashes cs u (Eq x y) ≡ false
  eq_stands x y e = elim (cases_Bool (mem x cs)) [
    | inl t ↦ rw t
    | inr t ↦ elim (cases_Bool (mem y cs)) [
      | inl v ↦ rw (t, v)
      | inr v ↦
          let n = F.model.inj (u.name x) (u.name y) (w.names_in x) (w.names_in y) (sym (value_at x t) ∙ e ∙ value_at y v) in
          let b : eqb (u.name x) (u.name y) ≡ true = grind (arith, nat_tests) in rw (t, v, b)
    ]
  ]

  neq_stands : (x y : ℕ) → env x ≢ env y → clashes cs u (Neq x y) ≡ false
  neq_stands x y e = elim (cases_Bool (mem x cs)) [
    | inl t ↦ rw t
    | inr t ↦ elim (cases_Bool (mem y cs)) [
      | inl v ↦ rw (t, v)
      | inr v ↦
          let n : u.name x ≢ u.name y = (λ f. e (value_at x t ∙ ap F.val f ∙ sym (value_at y v))) in
          let b : eqb (u.name x) (u.name y) ≡ false = grind (arith, nat_tests) in rw (t, v, b)
    ]
  ]

  pub no_clash : (l : List Atom) (h : Heap) → Holds env l h → clash cs u l ≡ false
  no_clash [] h H = refl
  no_clash (Eq x y ∷ l) h (e, H) = let a = eq_stands x y e in let b = no_clash l h H in rw (a, b)
  no_clash (Neq x y ∷ l) h (e, H) = let a = neq_stands x y e in let b = no_clash l h H in rw (a, b)
  no_clash (Next x y ∷ l) h (a, b, sp, C, H) = no_clash l b H
  no_clash (Lseg x y ∷ l) h (a, b, sp, C, H) = no_clash l b H

-- a name placed
module _ (rows : List Command) (r : ℕ) (env : ℕ → ℕ) (h : Heap) (l : List Atom) (s : Shape) (w : SoundShape s) (dead : (i : ℕ) → s.edge i ≡ Dead) where
  module _ (c : ℕ) (cs : List ℕ) (vacant : (n : ℕ) → mem n (c ∷ cs) ≡ true → s.name n ≡ 0) (newly : mem c cs ≡ false) where
    abbrev Old : Shape → Type 0
    Old u = Fits u (cleared (c ∷ cs) env) nothing_live

    abbrev PlacedFits : Shape → Type 0
    PlacedFits u = Fits u (cleared cs env) nothing_live

    put_at : (F : Old s) (o : ℕ) → F.val o ≡ env c → PlacedFits (set_name s c o)
    put_at F o e = record { val = F.val; model = F.model; named = λ n. let a = F.named n in elim (cases_eq n c) [ inl b ↦ grind (arith, nat_tests) | inr b ↦ grind (arith, nat_tests) ] }

    put_new : (F : Old s) → ((o : ℕ) → o < s.size → F.val o ≢ env c) → PlacedFits (set_name (add_node s Dead) c s.size)
    put_new F g = record {
      val = put F.val s.size (env c);
      named = λ n. let a = F.named n in let q = w.names_in n in elim (cases_eq n c) [ inl b ↦ grind (arith, nat_tests) | inr b ↦ grind (arith, nat_tests) ];
      model = widen s.size s.edge F.val nothing_live F.model s.name w (env c) (put F.val s.size (env c)) (put s.edge s.size Dead) refl g
          (grind (arith, nat_tests)) (λ o q. grind (arith, nat_tests)) (grind (arith, nat_tests)) (λ o q. grind (arith, nat_tests));
    }

    abbrev PlacedWell : Shape → Type 0
    PlacedWell u = SoundShape u × PlacedFits u

    well_at : (F : Old s) (o : ℕ) → o < s.size → F.val o ≡ env c → PlacedWell (set_name s c o)
    well_at F o q e = (sound_name s c o w q, put_at F o e)

    well_new : (F : Old s) → ((o : ℕ) → o < s.size → F.val o ≢ env c) → PlacedWell (set_name (add_node s Dead) c s.size)
    well_new F g = (sound_name (add_node s Dead) c s.size (sound_apart s Dead w (λ t e. absurd (grind (arith, nat_tests))) (λ t e. absurd (grind (arith, nat_tests)))) (omega arith), put_new F g)

    put_on : Holds env l h → (u : Shape) → PlacedWell u → SomeOf (Saying env h) (placed cs l r u)
    put_on H u (v, G) = let t = no_clash cs u env v G l h H in rw t (inl (G, H))

    place_to : Says (placing (c ∷ cs) l) s env h → SomeOf (Saying env h) (afters rows (placing (c ∷ cs) l) r s)
    place_to (F, H) = some_flat (Saying env h) PlacedWell (placed cs l r) (put_on H) (place c s)
        (elim (find_val F.val (env c) s.size) [
          | inl (o, q, e) ↦ inr (some_gather PlacedWell s.size (λ o. set_name s c o ∷ []) o q (inl (well_at F o q e)))
          | inr g ↦ inl (well_new F g)
        ])

    take_at : (o : ℕ) → PlacedFits (set_name s c o) → Old s
    take_at o F = record { val = F.val; model = F.model; named = λ n. let a = F.named n in let z = F.model.nil in elim (cases_eq n c) [ inl b ↦ let y = vacant n (grind (arith, nat_tests)) in grind (arith, nat_tests) | inr b ↦ grind (arith, nat_tests) ] }

    take_new : PlacedFits (set_name (add_node s Dead) c s.size) → Old s
    take_new F = record {
      val = F.val;
      named = λ n. let a = F.named n in let z = F.model.nil in elim (cases_eq n c) [ inl b ↦ let y = vacant n (grind (arith, nat_tests)) in grind (arith, nat_tests) | inr b ↦ grind (arith, nat_tests) ];
      model = narrow s.size (put s.edge s.size Dead) s.edge F.val nothing_live F.model (grind (arith, nat_tests)) (λ o q. grind (arith, nat_tests));
    }

    off_pile : (u : Shape) → SomeOf (Saying env h) (placed cs l r u) → (d : Holds env l h) × PlacedFits u
    off_pile u S = elim (cases_Bool (clash cs u l)) [
      | inl t ↦ absurd (rw t at S)
      | inr t ↦ elim (rw t at S) [ inl (F, H) ↦ (H, F) | inr n ↦ absurd n ]
    ]

    place_from : SomeOf (Saying env h) (afters rows (placing (c ∷ cs) l) r s) → Says (placing (c ∷ cs) l) s env h
    place_from S =
        let x = some_pull (λ (d : Holds env l h) u. PlacedFits u) (place c s) (flat_some (Saying env h) (λ u. (d : Holds env l h) × PlacedFits u) (placed cs l r) off_pile (place c s) S) in (
          elim x.1 [
            | inl F ↦ take_new F
            | inr G ↦ let y = gather_some PlacedFits s.size (λ o. set_name s c o ∷ []) G in elim y.2 [ inl F ↦ take_at y.0 F | inr n ↦ absurd n ]
          ],
          x.0,
        )

  placed_all_to : Says (placing [] l) s env h → SomeOf (Saying env h) (afters rows (placing [] l) r s)
  placed_all_to (F, H) = inl (nothing_live, h, (λ a. inr (refl, refl)), F, H)

  placed_all_from : SomeOf (Saying env h) (afters rows (placing [] l) r s) → Says (placing [] l) s env h
  placed_all_from (inr n) = absurd n
  placed_all_from (inl (g, b, sp, F, H)) =
      let e = nothing s.size s.name F.val s.edge g F.model (all_dead_from s.size s.name F.val s.size s.edge (λ o q. dead o)) in
      (subst (λ p. Fits s env p) (fun_ext e) F, subst (λ p. Holds env l p) (fun_ext (λ a. let x = sp a in let y = e a in grind (arith, nat_tests))) H)

pub stages_exactly : StagesExactly
stages_exactly rows (placing [] l) r s env h n (w, dead, vacant, ap) = (placed_all_to rows r env h l s w dead, placed_all_from rows r env h l s w dead)
stages_exactly rows (placing (c ∷ cs) l) r s env h n (w, dead, vacant, apart) = (place_to rows r env h l s w dead c cs vacant apart.0, place_from rows r env h l s w dead c cs vacant apart.0)
stages_exactly rows (adding l) r s env h n w = (adds_to rows r env h l s w, adds_from rows r env h l s w)
stages_exactly rows (linking i j l) r s env h n (w, p, q, d) = (links_to rows r env h i j l s w p q d, links_from rows r env h i j l s w p q d)
stages_exactly rows running r s env h n w = absurd (n refl)
