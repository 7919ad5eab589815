-- A line with one part more: the part lies where the zeros began, and zeros lie behind it.
use Rattle.std.proofs.Common.{◌≡◌, ℕ, ◌+◌, ◌-◌, ◌<◌, ◌≤◌, List, [], ◌∷◌, ◌++◌, length, get_or, take, drop, set, replicate, sym, ap, ◌∙◌, arith, take-append-drop}
use Rattle.std.proofs.lemmas.List.{take_more, take_more_set, take_all, append_assoc, length-append, length-replicate, length-take-le, drop-replicate}
use Rattle.std.proofs.Math.Seq.{drop-append-add}
use Rattle.std.proofs.lemmas.Slice.{take-put_mid, drop-put_mid}
use borrow.Rule.Slice.PartMut.{put_mid}
use Rattle.answers.specs.Padded.{padded}

-- a line that lies in n bytes, and a part for which there is room
module _ (bytes part new : List ℕ) (n k : ℕ) (few : n ≤ 70) (lies : bytes ≡ padded (take n bytes)) (is : new ≡ part) (wide : k ≡ length part) (room : n + length part ≤ 70) where
  enough : 70 ≤ length bytes
  enough =
      let e = ap (λ xs. length xs) lies in
      let a = length-append (take n bytes) (replicate (70 - length (take n bytes)) 0) in
      let r : length (replicate {A = ℕ} (70 - length (take n bytes)) 0) ≡ 70 - length (take n bytes) = length-replicate (70 - length (take n bytes)) 0 in
      omega arith

  long : n ≡ length (take n bytes)
  long = let e = enough in sym (length-take-le n bytes (omega arith))

  front : take (n + length part) (put_mid n k bytes new) ≡ take n bytes ++ part
  front =
      let l = ap (λ xs. length xs) is in
      let w = enough in
      let z = long in
      take-put_mid n k bytes new (n + length part) (omega arith) (omega arith) ∙ ap (λ xs. take n bytes ++ xs) is

  behind : drop (n + length part) bytes ≡ replicate (70 - (n + length part)) 0
  behind =
      let m = length part in
      let z = long in
      let s : n + m ≡ length (take n bytes) + m = omega arith in
      let r : 70 - length (take n bytes) - m ≡ 70 - (n + m) = omega arith in
      ap (λ xs. drop (n + m) xs) lies
      ∙ (ap (λ i. drop i (padded (take n bytes))) s
      ∙ (drop-append-add (take n bytes) (replicate (70 - length (take n bytes)) 0) m
      ∙ (drop-replicate m (70 - length (take n bytes)) 0 ∙ ap (λ i. replicate i 0) r)))

  pub added : (take (n + length part) (put_mid n k bytes new) ≡ take n bytes ++ part) × (put_mid n k bytes new ≡ padded (take n bytes ++ part))
  added =
      let m = n + length part in
      let l = ap (λ xs. length xs) is in
      let w = enough in
      let z = long in
      let a = length-append (take n bytes) part in
      let r : 70 - m ≡ 70 - length (take n bytes ++ part) = omega arith in
      let d = drop-put_mid n k bytes new m (omega arith) (omega arith) (omega arith) in (
        front,
        sym (take-append-drop m (put_mid n k bytes new))
            ∙ (ap (λ xs. xs ++ drop m (put_mid n k bytes new)) front
            ∙ (ap (λ xs. (take n bytes ++ part) ++ xs) (d ∙ behind)
            ∙ ap (λ i. (take n bytes ++ part) ++ replicate i 0) r)),
      )

-- one byte more in a line, and all bytes of a part
pub byte_more : (bytes part front : List ℕ) (n i : ℕ) → n < length bytes → i < length part → take n bytes ≡ front ++ take i part
    → take (n + 1) (set bytes n (get_or part i 0)) ≡ front ++ take (i + 1) part
byte_more bytes part front n i h l e =
    take_more_set bytes n (get_or part i 0) h
    ∙ (ap (λ xs. xs ++ get_or part i 0 ∷ []) e
    ∙ (append_assoc front (take i part) (get_or part i 0 ∷ [])
    ∙ ap (λ xs. front ++ xs) (sym (take_more part i 0 l))))

pub bytes_all : (text part front : List ℕ) (i : ℕ) → length part ≤ i → text ≡ front ++ take i part → text ≡ front ++ part
bytes_all text part front i h e = e ∙ ap (λ xs. front ++ xs) (take_all i part h)
