-- Proofs: one of a list and all of a list, through lists that are joined, flattened and gathered.
use Rattle.std.proofs.Common.{ℕ, zero, suc, ◌<◌, ◌⊎◌, List, [], ◌∷◌, ◌++◌, inl, inr, arith}
use Rattle.std.specs.List.{AllByRecursion, flat_map}
use Rattle.std.proofs.lemmas.Bool.{cases_eq}
use Rattle.pieces.specs.ModelChoices.{SomeOf, gather}

pub some_left : {A : Type 0} (P : A → Type 0) (xs ys : List A) → SomeOf P xs → SomeOf P (xs ++ ys)
some_left P [] ys s = elim s [ ]
some_left P (x ∷ xs) ys (inl p) = inl p
some_left P (x ∷ xs) ys (inr s) = inr (some_left P xs ys s)

pub some_right : {A : Type 0} (P : A → Type 0) (xs ys : List A) → SomeOf P ys → SomeOf P (xs ++ ys)
some_right P [] ys s = s
some_right P (x ∷ xs) ys s = inr (some_right P xs ys s)

pub some_either : {A : Type 0} (P : A → Type 0) (xs ys : List A) → SomeOf P (xs ++ ys) → SomeOf P xs ⊎ SomeOf P ys
some_either P [] ys s = inr s
some_either P (x ∷ xs) ys (inl p) = inl (inl p)
some_either P (x ∷ xs) ys (inr s) = elim (some_either P xs ys s) [ inl a ↦ inl (inr a) | inr b ↦ inr b ]

pub some_gather : {A : Type 0} (P : A → Type 0) (m : ℕ) (f : ℕ → List A) (k : ℕ) → k < m → SomeOf P (f k) → SomeOf P (gather m f)
some_gather P zero f k q s = absurd (omega arith)
some_gather P (suc m) f k q s = elim (cases_eq k m) [
  | inl e ↦ some_left P (f m) (gather m f) (rw e at s)
  | inr d ↦ some_right P (f m) (gather m f) (some_gather P m f k (omega arith) s)
]

pub gather_some : {A : Type 0} (P : A → Type 0) (m : ℕ) (f : ℕ → List A) → SomeOf P (gather m f) → (k : ℕ) × (k < m) × SomeOf P (f k)
gather_some P zero f s = elim s [ ]
gather_some P (suc m) f s = elim (some_either P (f m) (gather m f) s) [
  | inl a ↦ (m, omega arith, a)
  | inr b ↦ let x = gather_some P m f b in (x.0, omega arith, x.2)
]

pub some_flat : {A B : Type 0} (P : B → Type 0) (Q : A → Type 0) (f : A → List B) → ((x : A) → Q x → SomeOf P (f x)) → (xs : List A) → SomeOf Q xs → SomeOf P (flat_map f xs)
some_flat P Q f g [] s = elim s [ ]
some_flat P Q f g (x ∷ xs) (inl q) = some_left P (f x) (flat_map f xs) (g x q)
some_flat P Q f g (x ∷ xs) (inr s) = some_right P (f x) (flat_map f xs) (some_flat P Q f g xs s)

pub flat_some : {A B : Type 0} (P : B → Type 0) (Q : A → Type 0) (f : A → List B) → ((x : A) → SomeOf P (f x) → Q x) → (xs : List A) → SomeOf P (flat_map f xs) → SomeOf Q xs
flat_some P Q f g [] s = s
flat_some P Q f g (x ∷ xs) s = elim (some_either P (f x) (flat_map f xs) s) [ inl a ↦ inl (g x a) | inr b ↦ inr (flat_some P Q f g xs b) ]

pub some_map : {A : Type 0} (P Q : A → Type 0) → ((x : A) → P x → Q x) → (xs : List A) → SomeOf P xs → SomeOf Q xs
some_map P Q g [] s = s
some_map P Q g (x ∷ xs) (inl p) = inl (g x p)
some_map P Q g (x ∷ xs) (inr s) = inr (some_map P Q g xs s)

pub some_all : {A : Type 0} (P Q : A → Type 0) (C : Type 0) → ((x : A) → P x → Q x → C) → (xs : List A) → SomeOf P xs → AllByRecursion Q xs → C
some_all P Q C g [] s a = elim s [ ]
some_all P Q C g (x ∷ xs) (inl p) a = g x p a.0
some_all P Q C g (x ∷ xs) (inr s) a = some_all P Q C g xs s a.1

pub all_++ : {A : Type 0} (P : A → Type 0) (xs ys : List A) → AllByRecursion P xs → AllByRecursion P ys → AllByRecursion P (xs ++ ys)
all_++ P [] ys a b = b
all_++ P (x ∷ xs) ys a b = (a.0, all_++ P xs ys a.1 b)

pub all_flat : {A B : Type 0} (P : B → Type 0) (Q : A → Type 0) (f : A → List B) → ((x : A) → Q x → AllByRecursion P (f x)) → (xs : List A) → AllByRecursion Q xs → AllByRecursion P (flat_map f xs)
all_flat P Q f g [] a = tt
all_flat P Q f g (x ∷ xs) a = all_++ P (f x) (flat_map f xs) (g x a.0) (all_flat P Q f g xs a.1)

pub all_gather : {A : Type 0} (P : A → Type 0) (m : ℕ) (f : ℕ → List A) → ((k : ℕ) → k < m → AllByRecursion P (f k)) → AllByRecursion P (gather m f)
all_gather P zero f g = tt
all_gather P (suc m) f g = all_++ P (f m) (gather m f) (g m (omega arith)) (all_gather P m f (λ k q. g k (omega arith)))

pub flat_some_all : {A B : Type 0} (P : B → Type 0) (R Q : A → Type 0) (f : A → List B) → ((x : A) → R x → SomeOf P (f x) → Q x) → (xs : List A) → AllByRecursion R xs → SomeOf P (flat_map f xs) → SomeOf Q xs
flat_some_all P R Q f g [] a s = s
flat_some_all P R Q f g (x ∷ xs) a s = elim (some_either P (f x) (flat_map f xs) s) [ inl b ↦ inl (g x a.0 b) | inr b ↦ inr (flat_some_all P R Q f g xs a.1 b) ]

pub some_pull : {A D : Type 0} (R : D → A → Type 0) (xs : List A) → SomeOf (λ x. (d : D) × R d x) xs → (d : D) × SomeOf (R d) xs
some_pull R [] s = elim s [ ]
some_pull R (x ∷ xs) (inl (d, r)) = (d, inl r)
some_pull R (x ∷ xs) (inr s) = let y = some_pull R xs s in (y.0, inr y.1)

pub some_with : {A : Type 0} (P Q : A → Type 0) (xs : List A) → SomeOf P xs → AllByRecursion Q xs → SomeOf (λ x. Q x × P x) xs
some_with P Q [] s a = s
some_with P Q (x ∷ xs) (inl p) a = inl (a.0, p)
some_with P Q (x ∷ xs) (inr s) a = inr (some_with P Q xs s a.1)

pub all_any : {A : Type 0} (P : A → Type 0) → ((x : A) → P x) → (xs : List A) → AllByRecursion P xs
all_any P f [] = tt
all_any P f (x ∷ xs) = (f x, all_any P f xs)

pub all_both : {A : Type 0} (P Q R : A → Type 0) → ((x : A) → P x → Q x → R x) → (xs : List A) → AllByRecursion P xs → AllByRecursion Q xs → AllByRecursion R xs
all_both P Q R f [] a b = tt
all_both P Q R f (x ∷ xs) a b = (f x a.0 b.0, all_both P Q R f xs a.1 b.1)

pub some_map_all : {A : Type 0} (R P Q : A → Type 0) → ((x : A) → R x → P x → Q x) → (xs : List A) → AllByRecursion R xs → SomeOf P xs → SomeOf Q xs
some_map_all R P Q f [] a s = s
some_map_all R P Q f (x ∷ xs) a (inl p) = inl (f x a.0 p)
some_map_all R P Q f (x ∷ xs) a (inr s) = inr (some_map_all R P Q f xs a.1 s)

pub all_fst : {A : Type 0} (P Q : A → Type 0) (xs : List A) → AllByRecursion (λ x. P x × Q x) xs → AllByRecursion P xs
all_fst P Q [] a = tt
all_fst P Q (x ∷ xs) a = (a.0.0, all_fst P Q xs a.1)

pub all_map : {A : Type 0} (P Q : A → Type 0) → ((x : A) → P x → Q x) → (xs : List A) → AllByRecursion P xs → AllByRecursion Q xs
all_map P Q g [] a = tt
all_map P Q g (x ∷ xs) a = (g x a.0, all_map P Q g xs a.1)
