-- Proofs: what the lent records mean, be their number right or wrong, and what they mean after a call.
use Rattle.std.proofs.Common.{◌≡◌, ℕ, zero, suc, ◌+◌, ◌<◌, ◌≤◌, Bool, true, false, cond, leb, ltb, eqb, List, length, get_or, set, replicate, drop, count_by, position, is_some, Some, None, Option, sym, refl, ap, ◌∙◌, ⊎_elim, arith, rules, length-set}
use mathlib.Core.Path.{fun_ext}
use Rattle.heap.specs.Heaps.{put, without}
use Rattle.ledger.proofs.Changes.{cells-put, cells-without, record_cell, records_apart, sound-put, sound-without, Vacant}
use Rattle.ledger.proofs.Places.{no_place, place_address, place_here, place_link, place_most, place_past, used-full, used_room}
use Rattle.ledger.specs.Bounds.{cell}
use Rattle.ledger.specs.Counts.{live_usable, live_used, nil_dead, used_most}
use Rattle.ledger.specs.Records.{AllLive, cells, cleared, fitting, FirstDead, Found, IsCell, IsUnused, meant, Mirrors, place, size, sound, top_of, unused, usable, used, vacant}
use Rattle.ledger.specs.declared.records.Record.{Record}
use Rattle.std.proofs.lemmas.List.{at_drop_more, at_drop_all}
use Rattle.std.proofs.lemmas.List.Recursion.{is_sum_by}
use Rattle.std.specs.Option.{IsSome, MatchOption}
use Rattle.std.proofs.lemmas.Bool.{both_ways, cases_eq, ltb-false, ltb-true}
use Rattle.std.proofs.lemmas.Bool.Decides.{nat_tests}
use Rattle.store.proofs.Counting.{all_live}
use Rattle.store.proofs.Lists as lists
use Rattle.store.proofs.Lists.{length-usable, size_most}
use Rattle.store.specs.Meanings.{live_cells, with_heap}

pub fitting-some : (n i : ℕ) → i < size n → fitting n ≡ true
fitting-some n i lt = grind (arith, nat_tests)

pub usable-all : (rs : List Record) → fitting (length rs) ≡ true → usable rs ≡ rs
usable-all rs fit = grind (arith, nat_tests)

-- where there is a usable record, all are
pub usable-is : (rs : List Record) (i : ℕ) → i < size (length rs) → usable rs ≡ rs
usable-is rs i lt = lists.usable-is 512 rs i lt

pub size_is : (n i : ℕ) → i < size n → size n ≡ n
size_is n i lt = lists.size-is 512 n i lt

pub usable-set : (rs : List Record) (i : ℕ) (new : Record) → i < size (length rs) → usable (set rs i new) ≡ set rs i new
usable-set rs i new lt = lists.usable-set 512 rs i new lt

-- the search in the lent records ends, or goes on
pub find_here : (rs : List Record) (i a : ℕ) (d : Record) → i ≤ place (usable rs) a → i < size (length rs) → (get_or rs i d).address ≡ a → i ≡ place (usable rs) a
find_here rs i a d most lt e =
    let u = usable-is rs i lt in
    let p : i ≤ place rs a = omega (arith, ap (λ us. place us a) u) in
    let l : i < length rs = omega (arith, size_is (length rs) i lt) in
    sym (ap (λ us. place us a) u ∙ place_here rs i a d p l e)

pub find_past : (rs : List Record) (i a : ℕ) (d : Record) → i ≤ place (usable rs) a → i < size (length rs) → ((get_or rs i d).address ≡ a → ⊥) → i + 1 ≤ place (usable rs) a
find_past rs i a d most lt ne =
    let u = usable-is rs i lt in
    let p : i ≤ place rs a = omega (arith, ap (λ us. place us a) u) in
    let l : i < length rs = omega (arith, size_is (length rs) i lt) in
    omega (arith, ap (λ us. place us a) u, place_past rs i a d p l ne)

pub find_none : (rs : List Record) (n a : ℕ) → n ≡ size (length rs) → n ≤ place (usable rs) a → n ≡ place (usable rs) a
find_none rs n a e most = omega (arith, place_most (usable rs) a, length-usable 512 rs)

-- what the place of an address tells
module _ (rs : List Record) (a i : ℕ) (fine : sound (usable rs) ≡ true) (e : i ≡ place (usable rs) a) where
  found_first : i < size (length rs) → i ≡ place rs a
  found_first lt = e ∙ ap (λ us. place us a) (usable-is rs i lt)

  found_under : i < size (length rs) → place rs a < length rs
  found_under lt = let f = found_first lt in omega (arith, size_is (length rs) i lt)

  found_address : i < size (length rs) → (get_or rs i unused).address ≡ a
  found_address lt = ap (λ j. (get_or rs j unused).address) (found_first lt) ∙ place_address rs a unused (found_under lt)

  found_cell : 1 ≤ a → i < size (length rs) → IsCell rs a i
  found_cell low lt =
      let link : cells (usable rs) a ≡ Some (get_or rs i unused).link = ap (λ us. cells us a) (usable-is rs i lt) ∙ (place_link rs a unused low (found_under lt) ∙ ap (λ j. Some (get_or rs j unused).link) (sym (found_first lt))) in
      record {
        low = low;
        high = (cell (usable rs) a (get_or rs i unused).link fine link).high;
        within = lt;
        first = found_first lt;
        address = found_address lt;
        link = link;
      }

  found_unused : a ≡ 0 → i < size (length rs) → IsUnused rs i
  found_unused z lt =
      let p : place (usable rs) 0 < length (usable rs) = omega (arith, length-usable 512 rs, ap (place (usable rs)) z) in
      record {
        within = lt;
        first = found_first lt ∙ ap (place rs) z;
        address = found_address lt ∙ z;
        room = omega (arith, live_usable rs fine, used_room (usable rs) p, length-usable 512 rs);
      }

  found_full : a ≡ 0 → size (length rs) ≤ i → live_cells (meant rs) ≡ size (length rs)
  found_full z most =
      let p : length (usable rs) ≤ place (usable rs) 0 = omega (arith, length-usable 512 rs, ap (place (usable rs)) z) in
      omega (arith, live_usable rs fine, used-full (usable rs) p, length-usable 512 rs)

  found_nil : a ≡ 0 → is_some (cells (usable rs) a) ≡ false
  found_nil z = ap (λ b. is_some (cells (usable rs) b)) z ∙ ap is_some (nil_dead (usable rs))

  found_by : (b : Bool) → ltb i (length (usable rs)) ≡ b → Found rs a (cond b (Some i) None)
  found_by true t =
      let lt : i < size (length rs) = omega (arith, ltb-true i (length (usable rs)) t, length-usable 512 rs) in
      record { cell = λ low. found_cell low lt; nil = found_nil; unused = λ z. found_unused z lt }
  found_by false t =
      let most : length (usable rs) ≤ i = ltb-false i (length (usable rs)) t in
      record { cell = λ low. no_place (usable rs) a (omega arith); nil = found_nil; unused = λ z. found_full z (omega (arith, length-usable 512 rs)) }

-- what the search for the first record with an address tells
pub found : (rs : List Record) (a : ℕ) → sound (usable rs) ≡ true → Found rs a (position (λ r. eqb a r.address) (usable rs))
found rs a fine = found_by rs a (place (usable rs) a) fine refl (ltb (place (usable rs) a) (length (usable rs))) refl

-- the cells are the records in use
pub mirrors : (rs : List Record) → sound (usable rs) ≡ true → Mirrors rs
mirrors rs fine = record { cell = cell_of; own = own_of; apart = apart_of }
  where
    all : (i : ℕ) → i < size (length rs) → sound rs ≡ true
    all i lt = ap sound (sym (usable-is rs i lt)) ∙ fine

    cell_of : (a : ℕ) → is_some (cells (usable rs) a) ≡ true → (i : ℕ) × IsCell rs a i
    cell_of a live = by_place (position (λ r. eqb a r.address) (usable rs)) (found rs a fine)
      where
        by_place : (o : Option ℕ) → Found rs a o → (i : ℕ) × IsCell rs a i
        by_place o f = ⊎_elim (λ (z : a ≡ 0). absurd (both_ways (is_some (cells (usable rs) a)) (f.nil z) live)) (λ (ne : a ≡ 0 → ⊥). by_cell o (f.cell (omega arith))) (cases_eq a 0)
          where
            by_cell : (p : Option ℕ) → MatchOption p (is_some (cells (usable rs) a) ≡ false) (λ i. IsCell rs a i) → (i : ℕ) × IsCell rs a i
            by_cell (Some i) is = (i, is)
            by_cell None dead = absurd (both_ways (is_some (cells (usable rs) a)) dead live)

    own_of : (i : ℕ) → i < size (length rs) → 1 ≤ (get_or rs i unused).address → cells (usable rs) (get_or rs i unused).address ≡ Some (get_or rs i unused).link
    own_of i lt low = ap (λ us. cells us (get_or rs i unused).address) (usable-is rs i lt) ∙ record_cell rs i (all i lt) (omega (arith, size_is (length rs) i lt)) low

    apart_of : (i j : ℕ) → i < j → j < size (length rs) → 1 ≤ (get_or rs i unused).address → (get_or rs i unused).address ≡ (get_or rs j unused).address → ⊥
    apart_of i j less lt = records_apart rs i j (all j lt) less (omega (arith, size_is (length rs) j lt))

-- the meaning after a record was written
module _ (rs : List Record) (i a : ℕ) (fine : sound (usable rs) ≡ true) (lt : i < size (length rs)) where
  all : usable rs ≡ rs
  all = usable-is rs i lt

  fine_all : sound rs ≡ true
  fine_all = ap sound (sym all) ∙ fine

  under : i < length rs
  under = omega (arith, size_is (length rs) i lt)

  pub meant-put : (l : ℕ) → 1 ≤ a → Vacant rs i a → meant (set rs i (record { address = a; link = l })) ≡ with_heap (meant rs) (put (cells (usable rs)) a l)
  meant-put l low ok =
      let h : cells (usable (set rs i (record { address = a; link = l }))) ≡ put (cells (usable rs)) a l = ap cells (usable-set rs i (record { address = a; link = l }) lt) ∙ (fun_ext (cells-put rs i a l fine_all under low ok) ∙ ap (λ us. put (cells us) a l) (sym all)) in
      λ j. record { heap = h j; top = top_of (length-set rs i (record { address = a; link = l }) j); capacity = size (length-set rs i (record { address = a; link = l }) j) }

  pub meant-without : (get_or rs i unused).address ≡ a → meant (set rs i unused) ≡ with_heap (meant rs) (without (cells (usable rs)) a)
  meant-without own =
      let h : cells (usable (set rs i unused)) ≡ without (cells (usable rs)) a = ap cells (usable-set rs i unused lt) ∙ (fun_ext (cells-without rs i a fine_all under own) ∙ ap (λ us. without (cells us) a) (sym all)) in
      λ j. record { heap = h j; top = top_of (length-set rs i unused j); capacity = size (length-set rs i unused j) }

  pub kept_put : (l : ℕ) → 1 ≤ a → a ≤ 4095 → l ≤ 65534 → Vacant rs i a → sound (usable (set rs i (record { address = a; link = l }))) ≡ true
  kept_put l low high most ok = ap sound (usable-set rs i (record { address = a; link = l }) lt) ∙ sound-put rs i a l fine_all under low high most ok

  pub kept_without : sound (usable (set rs i unused)) ≡ true
  kept_without = ap sound (usable-set rs i unused lt) ∙ sound-without rs i fine_all under

-- unused records are sound
replicate_none : (n a : ℕ) → is_some (cells (replicate n unused) a) ≡ false
replicate_none zero a = refl
replicate_none (suc n) a = let before = replicate_none n a in grind (arith, nat_tests)

replicate_sound : (n : ℕ) → sound (replicate n unused) ≡ true
replicate_sound zero = refl
replicate_sound (suc n) = let before = replicate_sound n in let none = replicate_none n 0 in grind (arith, nat_tests)

pub cleared_sound : (rs : List Record) → sound (usable (cleared rs)) ≡ true
cleared_sound rs = let fine = replicate_sound (length rs) in grind (arith, nat_tests)

-- the count is that of the records in use
pub count_used : (rs : List Record) → count_by (λ r. leb 1 r.address) rs ≡ used rs
count_used rs = sym (is_sum_by used (λ r. cond (leb 1 r.address) 1 0) refl (λ _ _. refl) rs)

-- one record more is counted, and in the end all are
pub count_more : (rs : List Record) (i n : ℕ) → i < length rs → n + used (drop i rs) ≡ used rs → cond (leb 1 (get_or rs i unused).address) (n + 1) n + used (drop (i + 1) rs) ≡ used rs
count_more rs i n lt e =
    let q : used (drop i rs) ≡ cond (leb 1 (get_or rs i unused).address) 1 0 + used (drop (i + 1) rs) = at_drop_more used rs i unused lt in
    grind (arith, nat_tests)

pub count_all : (rs : List Record) (i n : ℕ) → length rs ≤ i → n + used (drop i rs) ≡ used rs → n ≡ used rs
count_all rs i n most e =
    let q : ◌≡◌ {A = ℕ} (used (drop i rs)) 0 = at_drop_all used rs i most in
    omega arith

-- not every address is live
pub some_dead : (rs : List Record) → sound (usable rs) ≡ true → ((a : ℕ) → 1 ≤ a → a ≤ 4095 → is_some (cells (usable rs) a) ≡ true) → ⊥
some_dead rs fine every = go 4095 refl
  where
    go : (t : ℕ) → t ≡ 4095 → ⊥
    go t e = omega (arith, live_used t (omega arith) (usable rs) fine, all_live (cells (usable rs)) t (λ a low high. every a low (omega arith)), used_most (usable rs), length-usable 512 rs, size_most 512 (length rs))

-- what the search for a dead address tells
pub first_dead : (rs : List Record) (l : ℕ) (o : Option ℕ) → MatchOption o (AllLive rs l 4096) (λ a. (l ≤ a) × (a < 4096) × (is_some (cells (usable rs) a) ≡ false) × AllLive rs l a) → MatchOption o (AllLive rs l 4096) (λ a. FirstDead rs l a)
first_dead rs l (Some a) h = record { low = h.0; high = omega arith; dead = h.2; before = h.3 }
first_dead rs l None h = h

-- a search through all of them finds one
pub dead_found : (rs : List Record) → sound (usable rs) ≡ true → (o : Option ℕ) → MatchOption o (AllLive rs 1 4096) (λ a. FirstDead rs 1 a) → IsSome o
dead_found rs fine (Some a) h = search rules
dead_found rs fine None all = absurd (some_dead rs fine (λ a low high. all a low (omega arith)))

-- from the boolean test of a record that can become that of a
pub from_vacant : (rs : List Record) (i a : ℕ) → i < size (length rs) → vacant rs i a ≡ true → Vacant rs i a
from_vacant rs i a lt e =
    let u : is_some (cells (usable rs) a) ≡ is_some (cells rs a) = ap (λ us. is_some (cells us a)) (usable-is rs i lt) in
    grind (arith, nat_tests)
