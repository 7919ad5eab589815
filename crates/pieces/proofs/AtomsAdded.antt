-- Proofs: the shape of nil alone, and an Eq, a Neq or a Next added to a shape: exact in both directions.
use Rattle.std.proofs.Common.{◌≡◌, ℕ, true, false, cond, eqb, ◌≢◌, [], ◌∷◌, Some, None, sym, refl, ap, ◌∙◌, inl, inr, arith}
use Rattle.std.proofs.lemmas.Bool.Decides.{nat_tests}
use Rattle.std.proofs.lemmas.Bool.{cases_Bool}
use Rattle.heap.specs.Heaps.{Heap, Split, IsCell, without}
use Rattle.heap.specs.declared.atoms.Atom.TheVariants.{Eq, Neq, Next}
use Rattle.pieces.specs.declared.shapes.Edge.TheVariants.{Dead, Cell}
use Rattle.pieces.specs.Pieces.{put}
use Rattle.pieces.specs.ModelShapes.{Shape, Fits, SoundShape, set_edge}
use Rattle.pieces.specs.ModelChoices.{SomeOf}
use Rattle.pieces.specs.ModelCover.{is_dead}
use Rattle.pieces.specs.ModelOpening.{bare, add}
use Rattle.pieces.specs.ModelStages.{nothing_live}
use Rattle.pieces.proofs.ShapeModels.{val_apart, cases_edge, take_as, give}
use Rattle.pieces.proofs.ShapeSteps.{dead_node}

pub bare_sound : SoundShape bare
bare_sound = record { some_node = omega arith; nil_dead = refl; cells_in = λ i t p e. absurd (grind (arith, nat_tests)); segs_in = λ i t p e. absurd (grind (arith, nat_tests)); names_in = λ n. omega arith }

pub bare_fits : (env : ℕ → ℕ) → ((n : ℕ) → env n ≡ 0) → Fits bare env nothing_live
bare_fits env far = record {
  val = λ i. i;
  named = far;
  model = record {
    own = λ a. 0;
    run = λ i. [];
    nil = refl;
    inj = λ i j p q e. e;
    dead = λ i p e. (refl, refl);
    cell = λ i t p e. absurd (grind (arith, nat_tests));
    seg = λ i t p e. absurd (grind (arith, nat_tests));
    mine = λ i a p on. absurd (grind (arith, nat_tests));
    all = λ a. inl refl;
  };
}

module _ (env : ℕ → ℕ) (x y : ℕ) (s : Shape) (w : SoundShape s) where
  pub eq_to : (h : Heap) → env x ≡ env y → Fits s env h → SomeOf (λ s. Fits s env h) (add (Eq x y) s)
  eq_to h e F = let n = F.model.inj (s.name x) (s.name y) (w.names_in x) (w.names_in y) (sym (F.named x) ∙ e ∙ F.named y) in
      let t : eqb (s.name x) (s.name y) ≡ true = grind (arith, nat_tests) in rw t (inl F)

  pub eq_from : (h : Heap) → SomeOf (λ s. Fits s env h) (add (Eq x y) s) → (env x ≡ env y) × Fits s env h
  eq_from h S = elim (cases_Bool (eqb (s.name x) (s.name y))) [
    | inl t ↦ elim (rw t at S) [ inl F ↦ (let n : s.name x ≡ s.name y = grind (arith, nat_tests) in F.named x ∙ ap F.val n ∙ sym (F.named y), F) | inr b ↦ absurd b ]
    | inr t ↦ absurd (rw t at S)
  ]

  pub neq_to : (h : Heap) → env x ≢ env y → Fits s env h → SomeOf (λ s. Fits s env h) (add (Neq x y) s)
  neq_to h e F = let n : s.name x ≢ s.name y = (λ f. e (F.named x ∙ ap F.val f ∙ sym (F.named y))) in
      let t : eqb (s.name x) (s.name y) ≡ false = grind (arith, nat_tests) in rw t (inl F)

  pub neq_from : (h : Heap) → SomeOf (λ s. Fits s env h) (add (Neq x y) s) → (env x ≢ env y) × Fits s env h
  neq_from h S = elim (cases_Bool (eqb (s.name x) (s.name y))) [
    | inl t ↦ absurd (rw t at S)
    | inr t ↦ elim (rw t at S) [ inl F ↦ ((λ e. let n = F.model.inj (s.name x) (s.name y) (w.names_in x) (w.names_in y) (sym (F.named x) ∙ e ∙ F.named y) in grind (arith, nat_tests)), F) | inr b ↦ absurd b ]
  ]

  next_fits : (h k l : Heap) → Split h k l → IsCell (env x) (env y) k → (F : Fits s env l) → s.edge (s.name x) ≡ Dead → Fits (set_edge s (s.name x) (Cell (s.name y))) env h
  next_fits h k l sp C F d =
      let q = w.names_in x in let vx = F.named x in let vy = F.named y in let cl = C.links in
      record {
        val = F.val;
        named = F.named;
        model = give s.size s.edge F.val l F.model (s.name x) q d (env x ∷ []) h (put s.edge (s.name x) (Cell (s.name y)))
            (λ a on. let u = sp a in grind (arith, nat_tests)) (λ a o. let u = sp a in let v = C.alone a (λ e. grind (arith, nat_tests)) in grind (arith, nat_tests))
            (λ j p n. let u = val_apart s.size s.edge F.val l F.model j (s.name x) p q n in grind (arith, nat_tests))
            (λ j n. grind (arith, nat_tests)) (λ e. grind (arith, nat_tests))
            (λ t e. let ty : t ≡ s.name y = grind (arith, nat_tests) in let u = sp (env x) in (grind (arith, nat_tests), cc)) (λ t e. absurd (grind (arith, nat_tests)));
      }

  pub next_to : (h k l : Heap) → Split h k l → IsCell (env x) (env y) k → Fits s env l → SomeOf (λ s. Fits s env h) (add (Next x y) s)
  next_to h k l sp C F =
      let u = sp (env x) in let cl = C.links in
      let off : l (F.val (s.name x)) ≡ None = (rw (← (F.named x)) (grind (arith, nat_tests))) in
      let d = dead_node s.size s.edge F.val l F.model (s.name x) (w.names_in x) off in
      let t : eqb (s.name x) 0 ≡ false = (let z : s.name x ≢ 0 = (λ z. C.some_address (F.named x ∙ ap F.val z ∙ F.model.nil)) in grind (arith, nat_tests)) in
      rw (t, d) (inl (next_fits h k l sp C F d))

  pub next_from : (h : Heap) → SomeOf (λ s. Fits s env h) (add (Next x y) s) → (d : (k : Heap) × (l : Heap) × Split h k l × IsCell (env x) (env y) k) × Fits s env d.1
  next_from h S = elim (cases_Bool (eqb (s.name x) 0)) [
    | inl t ↦ absurd (rw t at S)
    | inr t ↦ elim (cases_edge (s.edge (s.name x))) [
      | inr e ↦ let d : is_dead (s.edge (s.name x)) ≡ false = grind (arith, nat_tests) in absurd (rw (t, d) at S)
      | inl e ↦ elim (rw (t, e) at S) [
        | inr b ↦ absurd b
        | inl F ↦
            let q = w.names_in x in let vx = F.named x in let vy = F.named y in
            let l = F.model.cell (s.name x) (s.name y) q (grind (arith, nat_tests)) in
            let z : env x ≢ 0 = (λ z. let b = F.model.inj (s.name x) 0 q w.some_node (sym vx ∙ z ∙ sym F.model.nil) in grind (arith, nat_tests)) in (
              (
                (λ a. cond (eqb a (env x)) (Some (env y)) None),
                without h (env x),
                (λ a. grind (arith, nat_tests)),
                record { some_address = z; links = grind (arith, nat_tests); alone = λ a n. grind (arith, nat_tests) },
              ),
              record {
                val = F.val;
                named = F.named;
                model = take_as s.size (put s.edge (s.name x) (Cell (s.name y))) F.val h F.model (s.name x) q (env x ∷ []) (cc) s.edge e (λ k n. grind (arith, nat_tests));
              },
            )
      ]
    ]
  ]
