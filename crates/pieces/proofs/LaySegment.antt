-- Proofs: a segment laid over the nodes of a shape: straight to its end, or to the first node on its way and on from there.
use Rattle.std.proofs.Common.{◌≡◌, ℕ, ◌<◌, true, false, eqb, cond, ◌||◌, ◌≢◌, ◌⊎◌, List, [], ◌∷◌, ◌++◌, None, sym, refl, ap, ◌∙◌, subst, inl, inr, arith}
use mathlib.Core.Path.{fun_ext}
use Rattle.std.proofs.lemmas.Bool.Decides.{nat_tests}
use Rattle.std.proofs.lemmas.List.Folds.{list_any-append}
use Rattle.std.proofs.lemmas.Bool.{cases_eq, cases_Bool}
use Rattle.heap.specs.Heaps.{Heap, without}
use Rattle.pieces.specs.ModelRuns.{minus, Run, stop, step}
use Rattle.pieces.specs.Pieces.{mem}
use Rattle.pieces.specs.declared.shapes.Edge.{Edge}
use Rattle.pieces.specs.declared.shapes.Edge.TheVariants.{Dead, Segment}
use Rattle.pieces.specs.Pieces.{put}
use Rattle.pieces.specs.ModelShapes.{Sound, Model}
use Rattle.pieces.proofs.SegmentRuns.{run_join, run_dead, minus-in, minus-out, run_agree}
use Rattle.pieces.proofs.ShapeSteps.{First, first, dead_node, find_val}
use Rattle.pieces.proofs.ShapeModels.{run_first, val_apart, run_live, apart, take, give}

-- the first node on a run
pub record FirstNode (m : ℕ) (val : ℕ → ℕ) (h : Heap) (a f : ℕ) (xs : List ℕ) : Type 0 where
  pub node : ℕ
  pub in_m : node < m
  pub before : List ℕ
  pub after : List ℕ
  pub whole : xs ≡ before ++ after
  pub to : Run h a (val node) before
  pub from : Run (minus h before) (val node) f after
  pub not_end : val node ≢ f
  pub not_before : (k : ℕ) → k < m → mem (val k) before ≡ false

pub first_node : {h : Heap} {a f : ℕ} {xs : List ℕ} (m : ℕ) (val : ℕ → ℕ) → Run h a f xs → ((k : ℕ) → k < m → mem (val k) xs ≡ false) ⊎ FirstNode m val h a f xs
first_node m val stop = inl (λ k q. refl)
first_node m val (step {h} {e} {z} {f} {xs} p q r t) = elim (find_val val e m) [
  | inl (k, b, s) ↦ inr (record {
    node = k;
    in_m = b;
    before = [];
    after = e ∷ xs;
    whole = refl;
    to = subst (λ x. Run h e x []) (sym s) stop;
    from = subst (λ x. Run h x f (e ∷ xs)) (sym s) (step p q r t);
    not_end = λ u. q (sym s ∙ u);
    not_before = λ k q. refl;
  })
  | inr n ↦ elim (first_node m val t) [
    | inl none_in ↦ inl (λ k b. let x = none_in k b in let y = n k b in grind (arith, nat_tests))
    | inr F ↦ let w = F.whole in inr (record {
      node = F.node;
      in_m = F.in_m;
      before = e ∷ F.before;
      after = F.after;
      whole = ap (λ l. e ∷ l) w;
      to = step p (λ s. n F.node F.in_m (sym s)) r F.to;
      from = F.from;
      not_end = F.not_end;
      not_before = λ k b. let x = F.not_before k b in let y = n k b in grind (arith, nat_tests);
    })
  ]
]

-- what is taken away, in one word
minus_is : (xs : List ℕ) (h : Heap) (a : ℕ) → minus h xs a ≡ cond (mem a xs) None (h a)
minus_is xs h a = elim (cases_Bool (mem a xs)) [ inl y ↦ let x = minus-in xs h a y in cc | inr n ↦ let x = minus-out xs h a n in cc ]

pub run_nonzero : {h : Heap} {a f : ℕ} {xs : List ℕ} → Run h a f xs → mem 0 xs ≡ false
run_nonzero stop = refl
run_nonzero (step {e = e} p q r t) = let ih = run_nonzero t in grind (arith, nat_tests)

module _ (m : ℕ) (val : ℕ → ℕ) (h : Heap) where
  module _ (edge : ℕ → Edge) (i j : ℕ) (xs : List ℕ) (p : i < m) (q : j < m) (d : val i ≢ val j) (M : Model m edge val (minus h xs)) (r : Run h (val i) (val j) xs) where
    pub dead_on : (k : ℕ) → k < m → mem (val k) xs ≡ true → edge k ≡ Dead
    dead_on k b on = dead_node m edge val (minus h xs) M k b (minus-in xs h (val k) on)

    unfoldable pub f : First h (val i) (val j) xs
    f = first r d

    pub off_zero : i ≢ 0
    off_zero z = f.off_nil (ap val z ∙ M.nil)

    pub open_last : ((k : ℕ) → k < m → mem (val k) f.rest ≡ false) → Model m (put edge i (Segment j)) val h
    open_last none_in =
        let e = dead_on i p (run_first r d) in
        give m edge val (minus h xs) M i p e xs h (put edge i (Segment j)) (λ a on. minus-in xs h a on) (λ a o. sym (minus-out xs h a o))
        (λ k b n. let x = none_in k b in let y = val_apart m edge val (minus h xs) M k i b p n in rw f.whole (grind (arith, nat_tests)))
        (λ k n. grind (arith, nat_tests)) (λ z. grind (arith, nat_tests)) (λ u c. absurd (grind (arith, nat_tests)))
        (λ u c. let s : j ≡ u = grind (arith, nat_tests) in rw (← s) (d, r))

    module _ (F : FirstNode m val (without h (val i)) f.next (val j) f.rest) where
      unfoldable pub k : ℕ
      k = F.node

      ys : List ℕ
      ys = val i ∷ F.before

      parts : (a : ℕ) → mem a xs ≡ (mem a ys || mem a F.after)
      unfolding ys
      parts a = let x = list_any-append (λ x. eqb x a) F.before F.after in rw (f.whole, F.whole) (grind (arith, nat_tests))

      on_after : mem (val k) F.after ≡ true
      unfolding k
      on_after = run_first F.from F.not_end

      pub on_xs : mem (val F.node) xs ≡ true
      unfolding k
      on_xs = let x = parts (val k) in let y = on_after in grind (arith, nat_tests)

      off_ys : (a : ℕ) → mem a F.after ≡ true → mem a ys ≡ false
      unfolding ys
      off_ys a on = elim (cases_Bool (mem a ys)) [
        | inr n ↦ n
        | inl y ↦ let z = run_dead F.from a (minus-in ys h a y) in grind (arith, nat_tests)
      ]

      pub apart_k : val i ≢ val k
      unfolding k ys
      apart_k s = let a = off_ys (val k) on_after in grind (arith, nat_tests)

      to_k : Run h (val i) (val k) ys
      unfolding k ys
      to_k = step f.off_nil apart_k f.links F.to

      pub from_k : Run h (val k) (val j) F.after
      unfolding k ys
      from_k = run_agree h F.from (λ a on. sym (minus-out ys h a (off_ys a on)))

      not_ys : (l : ℕ) → l < m → l ≢ i → mem (val l) ys ≡ false
      unfolding ys
      not_ys l b n = let x = F.not_before l b in let y = val_apart m edge val (minus h xs) M l i b p n in grind (arith, nat_tests)

      off_after : (a : ℕ) → mem a ys ≡ true → mem a F.after ≡ false
      off_after a on = elim (cases_Bool (mem a F.after)) [ inr n ↦ n | inl y ↦ let z = off_ys a y in grind (arith, nat_tests) ]

      pub with_k : Model m (put edge i (Segment k)) val (minus h F.after)
      unfolding k
      with_k = give m edge val (minus h xs) M i p (dead_on i p (run_first r d)) ys (minus h F.after) (put edge i (Segment k))
          (λ a on. minus-in xs h a (let x = parts a in grind (arith, nat_tests)))
          (λ a o. let x = parts a in let y = minus_is xs h a in let z = minus_is F.after h a in grind (arith, nat_tests))
          (λ l b n. not_ys l b n)
          (λ l n. grind (arith, nat_tests)) (λ z. grind (arith, nat_tests)) (λ u c. absurd (grind (arith, nat_tests)))
          (λ u c. let s : k ≡ u = grind (arith, nat_tests) in rw (← s) (apart_k, run_agree (minus h F.after) to_k (λ a on. minus-out F.after h a (off_after a on))))

  -- and back: a segment up to the node k and one on from there are one
  pub record Closed (edge : ℕ → Edge) (i j : ℕ) : Type 0 where
    pub cells : List ℕ
    pub run : Run h (val i) (val j) cells
    pub model : Model m edge val (minus h cells)

  module _ (edge : ℕ → Edge) (i j k : ℕ) (p : i < m) (q : j < m) (n : i ≢ j) (e : edge i ≡ Dead) (xs : List ℕ) (r : Run h (val k) (val j) xs) (M : Model m (put edge i (Segment k)) val (minus h xs)) where
    zs : List ℕ
    zs = M.run i

    off_xs : (a : ℕ) → mem a zs ≡ true → mem a xs ≡ false
    unfolding zs
    off_xs a on = elim (cases_Bool (mem a xs)) [
      | inr n ↦ n
      | inl y ↦ absurd (run_live m (put edge i (Segment k)) val (minus h xs) M i a p on (minus-in xs h a y))
    ]

    pub close_via : Closed edge i j
    unfolding zs
    close_via =
        let g = M.seg i k p (grind (arith, nat_tests)) in
        let swap : minus (minus h xs) zs ≡ minus h (zs ++ xs) = fun_ext (λ a. let u = minus_is zs (minus h xs) a in let v = minus_is xs h a in let w = minus_is (zs ++ xs) h a in let y = list_any-append (λ x. eqb x a) zs xs in grind (arith, nat_tests)) in
        record {
          cells = zs ++ xs;
          run = run_join (run_agree h g.1 (λ a on. sym (minus-out xs h a (off_xs a on))))
              (run_agree (minus h zs) r (λ a on. minus-out zs h a (elim (cases_Bool (mem a zs)) [ inr n ↦ n | inl y ↦ let z = off_xs a y in grind (arith, nat_tests) ])))
              (apart m (put edge i (Segment k)) val (minus h xs) M j i q p (λ s. n (sym s)));
          model = subst (λ g. Model m edge val g) swap (take m (put edge i (Segment k)) val (minus h xs) M i p edge e (λ l n. grind (arith, nat_tests)));
        }

-- one segment more leaves the shape sound
pub one_seg_sound : (m : ℕ) (name : ℕ → ℕ) (edge : ℕ → Edge) (i j : ℕ) → i ≢ 0 → i ≢ j → j < m → Sound m edge name → Sound m (put edge i (Segment j)) name
one_seg_sound m name edge i j z n q w = record {
  some_node = w.some_node;
  nil_dead = let x = w.nil_dead in grind (arith, nat_tests);
  cells_in = λ k u p c. w.cells_in k u p (grind (arith, nat_tests));
  segs_in = λ k u p c. elim (cases_eq k i) [ inl s ↦ let uj : u ≡ j = grind (arith, nat_tests) in (grind arith, grind arith) | inr d ↦ w.segs_in k u p (grind (arith, nat_tests)) ];
  names_in = w.names_in;
}
