-- What a search over trains and their ends answers. Assumes nothing.
use Rattle.std.specs.Prelude.{ℕ, ◌≡◌, ◌⊎◌, Bool, true, false, Option, Some, None, List, [], ◌∷◌}
use Rattle.rules.specs.declared.Train.{Train}

-- A search over trains and their ends: the test is made of each train at its head and then at its rear, in the order of
-- the list, up to the first end that passes, and the answer is the train that it is an end of. `Passes t end b` says
-- that the test of the train t at that end may answer b.
unfoldable pub SearchesEnds : (Train → ℕ → Bool → Type 0) → List Train → Option Train → Type 0
SearchesEnds Passes [] result = result ≡ None
SearchesEnds Passes (t ∷ ts) result =
    (Passes t t.head true × (result ≡ Some t))
    ⊎ (Passes t t.head false × Passes t t.rear true × (result ≡ Some t))
    ⊎ (Passes t t.head false × Passes t t.rear false × SearchesEnds Passes ts result)
