use Rattle.std.proofs.Common.{◌≡◌, ℕ, true, false, cond, eqb, ◌≢◌, List, [], ◌∷◌, ◌++◌, Some, None, sym, refl, ap, ◌∙◌, subst, inl, inr, arith}
use Rattle.std.proofs.lemmas.Bool.Decides.{nat_tests}
use Rattle.std.proofs.lemmas.Bool.{cases_eq}
use Rattle.heap.specs.Heaps.{Heap, Split, IsLseg, done as ended, more, without}
use Rattle.pieces.specs.ModelRuns.{minus, Run, stop, step}
use Rattle.pieces.specs.Pieces.{mem}

-- what is dead stays dead
pub without-dead : (h : Heap) (e a : ℕ) → h a ≡ None → without h e a ≡ None
without-dead h e a d = grind (arith, nat_tests)

pub without-same : (h : Heap) (e : ℕ) → without h e e ≡ None
without-same h e = grind (arith, nat_tests)

pub without_other : (h : Heap) (e a : ℕ) → a ≢ e → without h e a ≡ h a
without_other h e a n = grind (arith, nat_tests)

-- the addresses of a run are live
pub run_dead : {h : Heap} {e f : ℕ} {xs : List ℕ} → Run h e f xs → (a : ℕ) → h a ≡ None → mem a xs ≡ false
run_dead stop a d = refl
run_dead (step {h} {e} {xs = xs} p q r t) a d =
    let ih = run_dead t a (without-dead h e a d) in grind (arith, nat_tests)

-- what a run leaves
pub minus-dead : (xs : List ℕ) (h : Heap) (a : ℕ) → h a ≡ None → minus h xs a ≡ None
minus-dead [] h a d = d
minus-dead (x ∷ xs) h a d = minus-dead xs (without h x) a (without-dead h x a d)

pub minus-in : (xs : List ℕ) (h : Heap) (a : ℕ) → mem a xs ≡ true → minus h xs a ≡ None
minus-in [] h a m = grind (arith, nat_tests)
minus-in (x ∷ xs) h a m = elim (cases_eq a x) [
  | inl e ↦ minus-dead xs (without h x) a (grind (arith, nat_tests))
  | inr n ↦ minus-in xs (without h x) a (grind (arith, nat_tests))
]

pub minus-out : (xs : List ℕ) (h : Heap) (a : ℕ) → mem a xs ≡ false → minus h xs a ≡ h a
minus-out [] h a m = refl
minus-out (x ∷ xs) h a m = minus-out xs (without h x) a (grind (arith, nat_tests)) ∙ grind (arith, nat_tests)

-- a run goes by the links of its own addresses alone
pub run_agree : {h : Heap} {e f : ℕ} {xs : List ℕ} (g : Heap) → Run h e f xs → ((a : ℕ) → mem a xs ≡ true → g a ≡ h a) → Run g e f xs
run_agree g stop same = stop
run_agree g (step {h} {e} {z} {f} {xs} p q r t) same =
    step p q (same e (grind (arith, nat_tests)) ∙ r)
    (run_agree (without g e) t (λ a m. let k : g a ≡ h a = same a (grind (arith, nat_tests)) in grind (arith, nat_tests)))

-- (2) two runs make one, where the end is not on the first
pub run_join : {h : Heap} {a d f : ℕ} {xs ys : List ℕ} → Run h a d xs → Run (minus h xs) d f ys → mem f xs ≡ false → Run h a f (xs ++ ys)
run_join stop u n = u
run_join {f = f} (step {e = e} {xs = xs} p q r t) u n =
    step p (grind (arith, nat_tests)) r (run_join t u (grind (arith, nat_tests)))

pub minus-++ : (xs ys : List ℕ) (h : Heap) → minus h (xs ++ ys) ≡ minus (minus h xs) ys
minus-++ [] ys h = refl
minus-++ (x ∷ xs) ys h = minus-++ xs ys (without h x)

-- (2) a run is halves at an address of its own
pub record cut (h : Heap) (a d f : ℕ) (xs : List ℕ) : Type 0 where
  pub fst : List ℕ
  pub snd : List ℕ
  pub whole : xs ≡ fst ++ snd
  pub to : Run h a d fst
  pub from : Run (minus h fst) d f snd

pub run_cut : {h : Heap} {a f : ℕ} {xs : List ℕ} (d : ℕ) → Run h a f xs → mem d xs ≡ true → cut h a d f xs
run_cut d stop m = absurd (grind (arith, nat_tests))
run_cut d (step {h} {e} {z} {f} {xs} p q r t) m = elim (cases_eq e d) [
  | inl same ↦ record { fst = []; snd = e ∷ xs; whole = refl; to = subst (λ x. Run h e x []) same stop; from = subst (λ x. Run h x f (e ∷ xs)) same (step p q r t) }
  | inr n ↦ let c = run_cut d t (grind (arith, nat_tests)) in
      record { fst = e ∷ c.fst; snd = c.snd; whole = ap (λ l. e ∷ l) c.whole; to = step p n r c.to; from = c.from }
]

-- (3) there is one run at most
run_one : {h : Heap} {a f b g : ℕ} {xs ys : List ℕ} → Run h a f xs → Run h b g ys → a ≡ b → f ≡ g → xs ≡ ys
run_one stop stop s t = refl
run_one stop (step p q r u) s t = absurd (q (sym s ∙ t))
run_one (step p q r u) stop s t = absurd (q (s ∙ sym t))
run_one (step {h} {e} {z} {f} {xs} p q r u) (step {e = e'} {z = w} {f = g} {xs = ys} p' q' r' v) s t =
    let same : z ≡ w = cc in
    let rest : xs ≡ ys = run_one u (subst (λ x. Run (without h x) w g ys) (sym s) v) same t in
    cc

pub run_unique : {h : Heap} {a f : ℕ} {xs ys : List ℕ} → Run h a f xs → Run h a f ys → xs ≡ ys
run_unique r s = run_one r s refl refl

-- a run of two cells
pub two_cells : (h : Heap) (a z b : ℕ) → a ≢ 0 → a ≢ b → z ≢ 0 → z ≢ b → z ≢ a → h a ≡ Some z → h z ≡ Some b → Run h a b (a ∷ z ∷ [])
two_cells h a z b a0 ab z0 zb za l k = step {h = h} a0 ab l (step z0 zb (without_other h a z za ∙ k) stop)

-- from heaps that split, and back
pub record Taken (h l : Heap) (e f : ℕ) : Type 0 where
  pub cells : List ℕ
  pub run : Run h e f cells
  pub left : (a : ℕ) → l a ≡ minus h cells a

pub lseg_run : {k : Heap} {e f : ℕ} (h l : Heap) → Split h k l → IsLseg k e f → Taken h l e f
lseg_run {k} h l s (ended em) = record { cells = []; run = stop; left = λ a. let x = s a in let y = em a in grind (arith, nat_tests) }
lseg_run h l s (more {h = k} {k = k1} {l = k2} {e} {z} {f} n s2 c t) =
    let at : h e ≡ Some z = (let x = s e in let y = s2 e in let w = c.links in grind (arith, nat_tests)) in
    let rest : Split (without h e) k2 l = (λ a. let x = s a in let y = s2 a in let w = c.alone a in elim (cases_eq a e) [ inl i ↦ grind (arith, nat_tests) | inr i ↦ let w' = w i in grind (arith, nat_tests) ]) in
    let ih = lseg_run (without h e) l rest t in
    record { cells = e ∷ ih.cells; run = step {xs = ih.cells} c.some_address n at ih.run; left = ih.left }

pub run_lseg : {h : Heap} {e f : ℕ} {xs : List ℕ} → Run h e f xs → (k : Heap) × Split h k (minus h xs) × IsLseg k e f
run_lseg stop = (λ a. None, λ a. inr (refl, refl), ended (λ a. refl))
run_lseg (step {h} {e} {z} {f} {xs} p q r t) =
    let ih = run_lseg t in
    let one : Heap = (λ a. cond (eqb a e) (Some z) None) in
    let k : Heap = (λ a. cond (eqb a e) (Some z) (ih.0 a)) in
    (k, λ a. let x = ih.1 a in grind (arith, nat_tests), more {k = one} q (λ a. let x = ih.1 e in grind (arith, nat_tests)) (record { some_address = p; links = grind (arith, nat_tests); alone = λ a n. grind (arith, nat_tests) }) ih.2)

-- (1) the algebra of Split
pub split_comm : (h k l : Heap) → Split h k l → Split h l k
split_comm h k l s a = let x = s a in grind (arith, nat_tests)

abbrev pub union : Heap → Heap → Heap
union k l a = elim (k a) [ None ↦ l a | Some v ↦ Some v ]

pub split_assoc : (h a m b c : Heap) → Split h a m → Split m b c → Split h (union a b) c × Split (union a b) a b
split_assoc h a m b c s t = (λ x. let p = s x in let q = t x in grind (arith, nat_tests), λ x. let p = s x in let q = t x in grind (arith, nat_tests))

pub split_cancel : (h k l m : Heap) → Split h k l → Split h k m → (a : ℕ) → l a ≡ m a
split_cancel h k l m s t a = let p = s a in let q = t a in grind (arith, nat_tests)

-- (2) and (3) for heaps
pub lseg_precise : (h k l k' l' : Heap) (e f : ℕ) → Split h k l → IsLseg k e f → Split h k' l' → IsLseg k' e f → (a : ℕ) → k a ≡ k' a
lseg_precise h k l k' l' e f s p s' p' a =
    let t = lseg_run h l s p in
    let t' = lseg_run h l' s' p' in
    let same : l a ≡ l' a = t.left a ∙ ap (λ c. minus h c a) (run_unique t.run t'.run) ∙ sym (t'.left a) in
    let x = s a in
    let y = s' a in
    grind (arith, nat_tests)
