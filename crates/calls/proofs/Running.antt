-- The loop of a run: the lines written so far, and behind them the run of what is left. Assumes nothing.
use Prim.Native.Nat.{ℕ, suc, ◌+◌, ◌-◌, ◌*◌, ◌/◌, ◌≤◌, ◌<◌}
use native.Mathlib.Nat.{add-zero, add_assoc}
use native.Mathlib.Omega.{arith}
use mathlib.Core.Path.{◌≡◌, refl, sym, ap, ◌∙◌}
use mathlib.Core.Bool.{Bool, true, false}
use mathlib.Core.List.{List, [], ◌++◌, append_assoc, append-nil}
use lib.ListN.{length, take, drop, length-append, length-take, length-drop, take-append-drop}
use lib.Seq.{length-take-le, take_at, drop-drop}
use mathlib.Core.Logic.{◌⊎◌, inl, inr}
use Rattle.std.proofs.lemmas.Bool.{cases_lt}
use borrow.Rule.Slice.PartMut.{mid_of, put_mid, post_of, same_len_mid, mid_len, drop_put}
use Rattle.rules.specs.declared.Seven.{Seven}
use Rattle.rules.specs.declared.Register.{Register}
use Rattle.rules.specs.Board.{Board, board_of}
use Rattle.rules.specs.Step.{Kept, after}
use Rattle.std.specs.Prelude.{Option, Some, None}
use Rattle.calls.specs.CallLine.{line_in}
use Rattle.calls.specs.Run.{run_of, ◌then_run◌, RunPost}
use Rattle.calls.proofs.CallLines.{call_length}
use Rattle.calls.proofs.Parts.{going, line_on, run_none, run_malformed, run_call}

-- ---- the line from a place on

-- fewer bytes than a line has
short_malformed : (at : ℕ) (text : List ℕ) → length text < at + 43 → line_in (take 43 (drop at text)) ≡ None
short_malformed at text h = go (line_in (take 43 (drop at text))) refl
  where
    go : (l : Option Seven) → line_in (take 43 (drop at text)) ≡ l → l ≡ None
    go (Some c) e =
        absurd (omega (
          arith,
          call_length (take 43 (drop at text)) c e,
          length-take 43 (drop at text),
          length-drop at text,
        ))
    go None e = refl

-- ---- the loop: k of at most n calls made, from b₀ to b

pub record SoFar (n : ℕ) (b₀ : Board) (text out₀ : List ℕ) (k : ℕ) (b : Board) (out : List ℕ) : Type 0 where
  pub few : k ≤ n
  pub within : 43 * k ≤ length text
  pub long : length out ≡ length out₀
  pub stays : drop (55 * k) out ≡ drop (55 * k) out₀
  pub run : run_of n b₀ text ≡ (going b (take (55 * k) out) k then_run run_of (n - k) b (drop (43 * k) text))

module _ (n : ℕ) (b₀ : Board) (text out₀ : List ℕ) (k : ℕ) (b : Board) (out : List ℕ)
    (so_far : SoFar n b₀ text out₀ k b out) where
  -- a call more, with its line in the buffer
  pub so_far_call : (c : Seven) (b₁ : Board) (line last : List ℕ) → k < n → 43 * k + 43 ≤ length text
      → 55 * n ≤ length out₀
      → line ≡ take 43 (drop (43 * k) text) → line_in line ≡ Some c → b₁ ≡ after b c 55
      → length last ≡ length (mid_of (55 * k) (55 * k + 55 - 55 * k) out) → last ≡ line_on b c
      → SoFar n b₀ text out₀ (k + 1) b₁ (put_mid (55 * k) (55 * k + 55 - 55 * k) out last)
  so_far_call c b₁ line last more left room cut e eb fills el =
      let at = 55 * k in
      let long = so_far.long in
      let within = so_far.within in
      let place : 55 * (k + 1) ≡ at + 55 = omega arith in
      let next : 43 * (k + 1) ≡ 43 * k + 43 = omega arith in
      let rest : n - k ≡ suc (n - (k + 1)) = omega arith in
      let read : line_in (take 43 (drop (43 * k) text)) ≡ Some c = rw (← cut) e in
      let left-run = run_of (n - (k + 1)) (after b c 55) (drop (43 * k + 43) text) in
      let part : length (mid_of at (at + 55 - at) out) ≡ 55 = mid_len at (at + 55) out (omega arith) ∙ omega arith in
      let l = fills ∙ part in
      let written : take (at + 55) (put_mid at (at + 55 - at) out last) ≡ take at out ++ last =
      rw (← append_assoc (take at out) last (post_of at (at + 55 - at) out))
      (take_at (take at out ++ last) (post_of at (at + 55 - at) out) (at + 55)
      (rw (length-append (take at out) last, length-take-le at out (omega arith), l))) in
      record {
        few = omega arith;
        within = omega arith;
        long = same_len_mid at (at + 55 - at) out last fills ∙ long;
        stays =
            rw place (drop_put at (at + 55) out last (omega arith) (omega arith) (l ∙ omega arith)
            ∙ sym (drop-drop 55 at out)
            ∙ ap (drop 55) so_far.stays ∙ drop-drop 55 at out₀);
        run =
            so_far.run
            ∙ rw (
              rest,
              run_call b (drop (43 * k) text) (n - (k + 1)) c read,
              drop-drop 43 (43 * k) text,
              place,
              next,
              written,
              eb,
              el,
              append_assoc (take at out) (line_on b c) left-run.text,
              add_assoc k 1 left-run.lines,
            );
      }

-- ---- the end of the loop

module _ (before register : Register) (text out₀ : List ℕ) (k : ℕ) (out : List ℕ)
    (so_far : SoFar (length out₀ / 55) (board_of before) text out₀ k (board_of register) out)
    (kept : Kept register) where
  -- nothing more
  done : (stopped : Bool)
      → run_of (length out₀ / 55 - k) (board_of register) (drop (43 * k) text)
      ≡ record { board = board_of register; text = []; lines = 0; stopped = stopped }
      → RunPost before text out₀ register k out
  done stopped e =
      let all : run_of (length out₀ / 55) (board_of before) text
      ≡ record { board = board_of register; text = take (55 * k) out ++ []; lines = k + 0; stopped = stopped } =
      so_far.run ∙ rw e in
      record {
        board = rw all;
        lines = rw (all, add-zero k);
        bytes = rw (all, append-nil (take (55 * k) out), ← so_far.stays) (sym (take-append-drop (55 * k) out));
        kept = kept;
      }

  malformed : k < length out₀ / 55 → line_in (take 43 (drop (43 * k) text)) ≡ None
      → RunPost before text out₀ register k out
  malformed h e =
      let s : length out₀ / 55 - k ≡ suc (length out₀ / 55 - (k + 1)) = omega arith in
      done true (rw s (run_malformed (board_of register) (drop (43 * k) text) (length out₀ / 55 - (k + 1)) e))

  -- no call more was to be made, or less than a line is left
  pub done_over : (0 < length out₀ / 55 - k → length text < 43 * k + 43) → RunPost before text out₀ register k out
  done_over short = go (cases_lt k (length out₀ / 55))
    where
      go : (k < length out₀ / 55) ⊎ (length out₀ / 55 ≤ k) → RunPost before text out₀ register k out
      go (inl h) = malformed h (short_malformed (43 * k) text (short (omega arith)))
      go (inr h) =
          let e : length out₀ / 55 - k ≡ 0 = omega arith in
          done false (rw e (run_none (board_of register) (drop (43 * k) text)))

  -- the next line is malformed
  pub done_malformed : (line : List ℕ) → k < length out₀ / 55 → line ≡ take 43 (drop (43 * k) text)
      → line_in line ≡ None
      → RunPost before text out₀ register k out
  done_malformed line h cut e = malformed h (rw (← cut) e)
