-- What opening leaves: a fresh register stands for the board that the plan opens. Assumes nothing.
use Rattle.std.proofs.Common.{◌≡◌, sym, ap, subst, ◌∙◌, ℕ, ◌≤◌, lit≤, length, List, [], Some, None, Ok, Err}
use Rattle.std.proofs.lemmas.List.{length-replicate}
use Rattle.rules.specs.declared.Gate.{Gate}
use Rattle.rules.specs.declared.Register.{Register}
use Rattle.rules.specs.declared.refusal.Refusal.TheVariants.{Plan}
use Rattle.rules.specs.Board.{Board, board_of, no_booking, opened, closed}
use Rattle.rules.specs.Plan.{open_board, open_answer}
use Rattle.rules.specs.Step.{Once, Starts, Kept, OpenPost}
use Rattle.rules.specs.Stored.{exclusive_portions, twa_portions, needed_gates, Stored, SortsApart}
use Rattle.rules.proofs.HeldSets.{sets_opened}
use Rattle.rules.proofs.Once.{once_opened}
use Rattle.rules.proofs.SortsKept.{sorts_opened}
use Rattle.rules.proofs.Terms.{starts_opened}
use Rattle.plan.specs.declared.text.Plan as Read
use Rattle.plan.specs.PlanLines.{PlanRead}

-- a register with three empty sets: they are those of a freshly opened board
pub none_stored : (r : Register) (portions : ℕ) (gates : List Gate) → board_of r ≡ opened portions gates
    → r.exclusive_held ≡ 0 → r.twa_held ≡ 0 → r.needed ≡ 0 → (board_of r ≡ opened portions gates) × Stored r
none_stored r portions gates e x w n =
    let none = sets_opened portions gates in (
      e,
      record {
        exclusive_held = x ∙ none.0 ∙ ap exclusive_portions (sym e);
        twa_held = w ∙ none.1 ∙ ap twa_portions (sym e);
        needed = n ∙ none.2 ∙ ap needed_gates (sym e);
      },
    )

-- what holds of a register that stands for a freshly opened board
kept_fresh : (r : Register) (portions : ℕ) (gates : List Gate) → (board_of r ≡ opened portions gates) × Stored r
    → portions ≤ 64 → length gates ≤ 64 → Kept r
unfolding board_of opened
kept_fresh r portions gates (e, stored) h l = record {
  bounds = record {
    portions = rw (ap (λ (b : Board). b.portions) e) h;
    gates = rw (ap (λ (b : Board). b.gates) e) l;
    booked = rw (ap (λ (b : Board). length b.bookings) e ∙ length-replicate (length gates) no_booking) l;
    live = (subst Once (sym e) (once_opened portions gates)).live;
    running = (subst Once (sym e) (once_opened portions gates)).running;
  };
  once = subst Once (sym e) (once_opened portions gates);
  starts = subst Starts (sym e) (starts_opened portions gates);
  stored = stored;
  sorts = subst SortsApart (sym e) (sorts_opened portions gates);
}

pub opened_post : (text : List ℕ) (p : Read.Plan) (r : Register) → PlanRead text (Some p)
    → (board_of r ≡ opened p.portions p.gates.items) × Stored r
    → OpenPost text (record { register = r; answer = Ok tt })
unfolding open_answer
opened_post text p r h e = record {
  board = e.0 ∙ h.board;
  answered = rw (← h.some);
  kept = kept_fresh r p.portions p.gates.items e h.portions h.gates;
}

pub refused_post : (text : List ℕ) (r : Register) → PlanRead text None → (board_of r ≡ opened 0 []) × Stored r
    → OpenPost text (record { register = r; answer = Err Plan })
unfolding open_answer open_board closed
refused_post text r h e = record {
  board = rw (← h.some) e.0;
  answered = rw (← h.some);
  kept = kept_fresh r 0 [] e (lit≤ tt) (lit≤ tt);
}
