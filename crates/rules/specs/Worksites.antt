-- Worksites inside an authority: what is due for each gap between them, a line each (02, order 9). No call of the
-- board: it reads no register. Assumes nothing.
use Rattle.std.specs.Prelude.{ℕ, ◌-◌, ◌*◌, ◌≡◌, Bool, true, false, cond, not, ◌&&◌, ◌||◌, List, [], ◌∷◌, ◌++◌, map}
use Rattle.std.specs.Prelude.{length, drop, eqb, leb, ltb}
use Rattle.lists.specs.Search.{any}
use Rattle.columns.specs.Line.{line}
use Rattle.sets.specs.Sets.{between}
use Rattle.rules.specs.Refusals.{Refusal, ◌when◌, lowest}
use Rattle.rules.specs.Sheet.{page_of}

-- ---- what the officer sends

-- "For an LPA or a TWA", by 01's numbers: "1 LPA, 2 TOA, 3 TWA"
abbrev pub is_lpa_no : ℕ → Bool
is_lpa_no kind = eqb kind 1

abbrev pub is_twa_no : ℕ → Bool
is_twa_no kind = eqb kind 3

-- "as the officer states for the list (1 or 2; 0 for a TWA)": another kind has no statement
unfoldable pub is_stated : ℕ → ℕ → Bool
is_stated kind stated = (is_lpa_no kind && between 1 2 stated) || (is_twa_no kind && eqb stated 0)

-- "as from and to metres (0 to 999,999), each from at most its to, and each start at or after the end before it":
-- `end` is the end before the first of them. As many from as to.
unfoldable pub are_worksites : ℕ → List ℕ → List ℕ → Bool
are_worksites end [] [] = true
are_worksites end [] (t ∷ to) = false
are_worksites end (f ∷ from) [] = false
are_worksites end (f ∷ from) (t ∷ to) = leb end f && leb f t && leb t 999999 && are_worksites t from to

-- "up to 32 worksites", and one at least: 26 when "the list is empty, too long, out of range or out of that order"
unfoldable pub is_list : List ℕ → List ℕ → Bool
is_list from to = between 1 32 (length from) && are_worksites 0 from to

-- ---- the gaps

-- how far it is from each metre of the first to the one in its place in the second
unfoldable pub distances : List ℕ → List ℕ → List ℕ
distances xs [] = []
distances [] (y ∷ ys) = []
distances (x ∷ xs) (y ∷ ys) = (y - x) ∷ distances xs ys

-- "For each gap, next start minus last end": from each end to the start that comes next
abbrev pub gaps : List ℕ → List ℕ → List ℕ
gaps from to = distances to (drop 1 from)

-- ---- what is due for a gap

-- "LPA: under 500 single or coordinated, as the officer states for the list"; "500 to 1000 signals and marker midway;
-- above 1000 protection at each end": "1 single", "2 coordinated, 3 midway, 4 each end"
unfoldable pub due_in_lpa : ℕ → ℕ → ℕ
due_in_lpa stated gap = cond (ltb gap 500) stated (cond (leb gap 1000) 3 4)

-- "TWA: under 1000 one worksite; 1000 to 3500 several under one TWA": "1 [..] one worksite", "5 several"
unfoldable pub due_in_twa : ℕ → ℕ
due_in_twa gap = cond (ltb gap 1000) 1 5

unfoldable pub due : ℕ → ℕ → ℕ → ℕ
due kind stated gap = cond (is_lpa_no kind) (due_in_lpa stated gap) (due_in_twa gap)

-- ---- the answer

-- "The lent buffer must hold 31 lines of 17 bytes"
abbrev pub is_short_of_lines : ℕ → Bool
is_short_of_lines room = ltb room (31 * 17)

-- 27: "a TWA gap is above 3500"
abbrev pub is_too_far : ℕ → Bool
is_too_far gap = ltb 3500 gap

unfoldable pub are_too_far : ℕ → List ℕ → List ℕ → Bool
are_too_far kind from to = is_twa_no kind && any is_too_far (gaps from to)

-- "A shorter one gives 1 first"; "26 when the kind is another, or the officer's statement isn't one of those for the
-- kind, or the list is" not one; "27 [..] tested after 26"
unfoldable pub worksites_refusals : ℕ → ℕ → List ℕ → List ℕ → ℕ → List Refusal
worksites_refusals kind stated from to room =
    1 when is_short_of_lines room
    ∷ 26 when not (is_stated kind stated && is_list from to)
    ∷ 27 when are_too_far kind from to
    ∷ []

unfoldable pub worksites_answer : ℕ → ℕ → List ℕ → List ℕ → ℕ → ℕ
worksites_answer kind stated from to room = lowest (worksites_refusals kind stated from to room)

-- ---- what is written

-- "one line a gap in 8-column numbers: metres, and" what is due
abbrev pub gap_widths : List ℕ
gap_widths = 8 ∷ 8 ∷ []

unfoldable pub gap_line : ℕ → ℕ → ℕ → List ℕ
gap_line kind stated gap = line gap_widths (gap ∷ due kind stated gap ∷ [])

unfoldable pub gap_lines : ℕ → ℕ → List ℕ → List ℕ
gap_lines kind stated gs = page_of (map (gap_line kind stated) gs)

-- the whole result: "later bytes stay and the number of lines comes back", "refusals write nothing"
pub record WorksitesPost
    (kind stated : ℕ) (from to buffer : List ℕ) (given lines : ℕ) (buffer' : List ℕ) : Type 0 where
  pub answered : given ≡ worksites_answer kind stated from to (length buffer)
  pub counted : lines ≡ cond (eqb given 0) (length (gaps from to)) 0
  pub bytes : buffer'
      ≡ cond (eqb given 0)
      (gap_lines kind stated (gaps from to) ++ drop (length (gap_lines kind stated (gaps from to))) buffer)
      buffer
