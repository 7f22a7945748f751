use Rattle.std.proofs.Common.{◌≡◌, map, take}
use Rattle.worksites.proofs.text.worksites_on.Given as goal

abbrev pub invariant-loop-start : goal.invariant-loop-start
invariant-loop-start l =
    (l.from.items ≡ map (λ p. p.0) (take l.start-index l.pairs))
    × (l.to.items ≡ map (λ p. p.1) (take l.start-index l.pairs))
