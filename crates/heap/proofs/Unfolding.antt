-- Proofs: what holds of every list segment.
use Rattle.std.proofs.Common.{◌≡◌, ℕ, Bool, true, false, eqb, ◌≢◌, ◌⊎◌, None, sym, refl, ◌∙◌, subst, inl, inr}
use Rattle.heap.specs.Heaps.{Heap, Empty, Split, IsLseg, done, more}
use Rattle.heap.specs.Segments.{EndIsNoCell, NilIsNoCell, Starts, Unfolds}
use Rattle.std.proofs.lemmas.Bool.{eqb-true, eqb-false}

-- an address that is live in neither part is dead in the whole
pub dead_in_parts : (h k l : Heap) → Split h k l → (a : ℕ) → k a ≡ None → l a ≡ None → h a ≡ None
dead_in_parts h k l s a p q = elim (s a) [ inl w ↦ w.0 ∙ p | inr w ↦ w.0 ∙ q ]

pub end_dead : {h : Heap} {e f : ℕ} → IsLseg h e f → h f ≡ None
end_dead {h} {e} {f} (done z) = z f
end_dead {h} {e} {f} (more {k} {l} ne s c r) = dead_in_parts h k l s f (c.alone f (λ q. ne (sym q))) (end_dead r)

pub end_is_no_cell : EndIsNoCell
end_is_no_cell h e f w = end_dead w

pub nil_dead : {h : Heap} {e f : ℕ} → IsLseg h e f → h 0 ≡ None
nil_dead {h} {e} {f} (done z) = z 0
nil_dead {h} {e} {f} (more {k} {l} ne s c r) = dead_in_parts h k l s 0 (c.alone 0 (λ q. c.some_address (sym q))) (nil_dead r)

pub nil_is_no_cell : NilIsNoCell
nil_is_no_cell h e f w = nil_dead w

pub unfolded : {h : Heap} {e f : ℕ} → IsLseg h e f → ((e ≡ f) × Empty h) ⊎ ((e ≢ f) × Starts h e f)
unfolded (done z) = inl (refl, z)
unfolded (more {k} {l} {z} ne s c r) = inr (ne, (k, l, z, s, c, r))

pub folded : (h : Heap) (e f : ℕ) → ((e ≡ f) × Empty h) ⊎ ((e ≢ f) × Starts h e f) → IsLseg h e f
folded h e f (inl w) = subst (λ (n : ℕ). IsLseg h e n) w.0 (done w.1)
folded h e f (inr w) = let s = w.1 in more w.0 s.3 s.4 s.5

pub unfolds : Unfolds
unfolds h e f = (unfolded, folded h e f)

-- the same, by the answer of the test that a walk makes
pub over_at_end : (r : Bool) (e f : ℕ) → r ≡ eqb e f → r ≡ true → (h : Heap) → IsLseg h e f → Empty h
over_at_end r e f is t h w = elim (unfolded w) [ inl p ↦ p.1 | inr p ↦ absurd (p.0 (eqb-true e f (sym is ∙ t))) ]

pub starts_before_end : (r : Bool) (e f : ℕ) → r ≡ eqb e f → r ≡ false → (h : Heap) → IsLseg h e f → Starts h e f
starts_before_end r e f is t h w = elim (unfolded w) [ inl p ↦ absurd (eqb-false e f (sym is ∙ t) p.0) | inr p ↦ p.1 ]
