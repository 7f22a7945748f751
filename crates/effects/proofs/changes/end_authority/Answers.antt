-- `effects::changes::end_authority` meets its contract. Assumes nothing.
use Rattle.std.proofs.Common.{rules}
use Rattle.arrayvec.proofs.ArrayVecLemmas.{filter-from_retain}
use Rattle.effects.proofs.changes.end_authority.Goals as goal

pub returns : goal.returns
returns c = filter-from_retain _ _ _ (λ x b f' y k. search rules) _ _ c.retain.ensures.filtered
