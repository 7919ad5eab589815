-- Meaning: the words of a bench, and the store that it is. Assumes nothing.
use Rattle.std.specs.Prelude.{ℕ, List}
use Rattle.bench.specs.Words.{bench_kinds, meant}
use Rattle.bench.specs.declared.benches.Bench.{Bench}
use Rattle.store.specs.Meanings.{Kinds, Meaning}

abbrev pub words_of : Bench → List ℕ
words_of b = b.words.now

abbrev pub store_of : Bench → Meaning
store_of b = meant (words_of b)

abbrev pub kinds_of : Bench → Kinds
kinds_of b = bench_kinds

-- the ghost name of the list that the words stand in
abbrev pub lender_of : Bench → ℕ
lender_of b = b.words.ghost_name
