-- Proofs: the worked sheets are as said, by computing: each is read and searched.
use Rattle.std.proofs.Common.{◌≡◌, ℕ, Some, Ok, refl}
use Rattle.std.specs.List.{AllByRecursion}
use Rattle.layout.specs.Texts.{lines_of}
use Rattle.sheet.specs.Reading.{reading}
use Rattle.sheet.proofs.ReadsText.{reads_text}
use Rattle.pieces.proofs.Choices.{all_map}
use Rattle.pieces.proofs.VerdictsExact.{one_verdict}
use Rattle.worked.specs.Callees.{alone}
use Rattle.worked.specs.Texts.{bytes_of}
use Rattle.worked.specs.Worked.{Sheet, sheets, AsSaid, WorkedSheets}
use Rattle.worked.proofs.Searching.{verdict_found, verdict_judged}

-- more turns than the search of any of them takes
abbrev turns : ℕ
turns = 10000

-- what computing has to show of a sheet
abbrev Computed : Sheet → Type 0
Computed s = (reading (bytes_of s.lines) ≡ Ok s.routine) × (verdict_found (alone s.routine) s.routine turns ≡ Some s.verdict)

as_said : (s : Sheet) → Computed s → AsSaid s
as_said s (r, f) =
    let w = (reads_text (bytes_of s.lines) s.routine r).0 in
    let j = verdict_judged (alone s.routine) s.routine w turns s.verdict f in
    (r, j, λ v k. one_verdict (alone s.routine) s.routine v s.verdict k j)

computed : AllByRecursion Computed sheets
unfolding reading lines_of
computed = ((refl, refl), ((refl, refl), ((refl, refl), ((refl, refl), ((refl, refl), ((refl, refl), ((refl, refl), ((refl, refl), ((refl, refl), ((refl, refl), ((refl, refl), ((refl, refl), ((refl, refl), tt)))))))))))))

pub worked_sheets_lem : WorkedSheets
worked_sheets_lem = all_map Computed AsSaid as_said sheets computed
