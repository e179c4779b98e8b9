-- What the place that some intervals lead to says of them.
use Rattle.std.proofs.Common.{◌≡◌, ◌↔◌, ℕ, ◌+◌, ◌<◌, Bool, IsOk, Result, Ok, Err, Option, List, [], ◌∷◌, ◌++◌, length, refl, sym, ◌∙◌, ap, subst, inr, append_assoc}
use Rattle.std.proofs.lemmas.List.{append-nil, get_or_append_left}
use Rattle.std.proofs.Math.Seq.{get_or-append_seam}
use Rattle.std.proofs.lemmas.Bool.{false≢true}
use Rattle.std.specs.Option.{option_to_list}
use Rattle.bit_strings.specs.Family.{Begins}
use Rattle.pie_line.specs.declared.frame.FrameKind.{FrameKind}
use Rattle.pie_line.specs.declared.frame.PieRefusal.{PieRefusal}
use Rattle.pie_line.specs.declared.frame.PieRefusal.TheVariants.{Unfinished}
use Rattle.pie_line.specs.declared.frame_state.FrameState.{FrameState}
use Rattle.pie_line.specs.Pie.{IsFrame, Frames}
use Rattle.pie_line.specs.FrameState.{Completes, Moves, Stops}
use Rattle.pie_line.specs.Refusal.{refusal_at, IsFrameRefusedAt, RefusesFrame}
use Rattle.pie_line.specs.Edges.{LeadsToState, EdgesStandFor}
use Rattle.pie_line.proofs.Completions.{completion}
use Rattle.bit_strings.specs.laws.Family.{bad-last, bad-more, begins-take}

pub leads-moves : (place next : FrameState) (bit : Option Bool) (bits : List Bool) (xs : List ℕ) (x : ℕ) → LeadsToState place bits xs → Moves place x next bit →
    LeadsToState next (bits ++ option_to_list bit) (xs ++ x ∷ [])
leads-moves place next bit bits xs x l m = record {
  sound = m.sound;
  only = λ kind all rest f.
      let a = l.only kind all (x ∷ rest) (subst (IsFrame kind all) (append_assoc xs (x ∷ []) rest) f) in
      let b = m.only kind a.0 rest a.2 in
      (b.0, a.1 ∙ ap (λ ys. bits ++ ys) b.1 ∙ sym (append_assoc bits (option_to_list bit) b.0), b.2);
  back = λ kind more rest c.
      let f = l.back kind (option_to_list bit ++ more) (x ∷ rest) (m.back kind more rest c) in
      rw (append_assoc bits (option_to_list bit) more, append_assoc xs (x ∷ []) rest) f;
}

pub leads-begins : (place : FrameState) (bits : List Bool) (xs : List ℕ) → LeadsToState place bits xs → Begins Frames xs
leads-begins place bits xs l =
    let c = completion place l.sound in
    (c.2, (c.0, bits ++ c.1, l.back c.0 c.1 c.2 c.3))

pub leads-stops : (place : FrameState) (bits : List Bool) (xs : List ℕ) (x : ℕ) → LeadsToState place bits xs → Stops place x → ¬ Begins Frames (xs ++ x ∷ [])
leads-stops place bits xs x l s b =
    let f = b.1 in
    let a = l.only f.0 f.1 (x ∷ b.0) (subst (IsFrame f.0 f.1) (append_assoc xs (x ∷ []) b.0) f.2) in
    s.never f.0 a.0 b.0 a.2

-- the interval at which no frame goes on is the bad place
pub leads-refused : (place : FrameState) (bits : List Bool) (xs : List ℕ) (x : ℕ) (refusal : PieRefusal) → LeadsToState place bits xs → Stops place x →
    refusal ≡ refusal_at (length xs) x → (at : ℕ) × IsFrameRefusedAt refusal (xs ++ x ∷ []) at
leads-refused place bits xs x refusal l s named = (
  length xs,
  record {
    bad = bad-last Frames xs x (leads-begins place bits xs l) (leads-stops place bits xs x l s);
    named = rw get_or-append_seam named;
  },
)

pub refused-more : (refusal : PieRefusal) (xs ys : List ℕ) → (at : ℕ) × IsFrameRefusedAt refusal xs at → (at : ℕ) × IsFrameRefusedAt refusal (xs ++ ys) at
refused-more refusal xs ys r =
    let inside : r.0 < length xs = r.1.bad.inside in
    (r.0, record { bad = bad-more Frames xs ys r.0 r.1.bad; named = rw get_or_append_left r.1.named })

-- a frame that goes on is unfinished
pub leads-unfinished : (place : FrameState) (bits : List Bool) (xs : List ℕ) (count : ℕ) → LeadsToState place bits xs → count ≡ length xs →
    ((kind : FrameKind) (more : List Bool) → ¬ Completes place kind more []) → RefusesFrame (Unfinished count) xs
leads-unfinished place bits xs count l counted goes_on =
    inr (
      count,
      record {
        short = record {
          whole = counted;
          begins = leads-begins place bits xs l;
          no_member = λ f. let a = l.only f.0 f.1 [] (subst (IsFrame f.0 f.1) (sym (append-nil xs)) f.2) in goes_on f.0 a.0 a.2;
        };
        named = refl;
      },
    )

-- a frame that ends here is whole
pub leads-ends : (place : FrameState) (bits : List Bool) (xs : List ℕ) (kind : FrameKind) → LeadsToState place bits xs → Completes place kind [] [] → IsFrame kind bits xs
leads-ends place bits xs kind l c = rw (← append-nil bits, ← append-nil xs) (l.back kind [] [] c)

-- a decoder still stands exactly where the intervals that it was given begin a frame
pub standing-begins : (standing : Result FrameState PieRefusal) (count : ℕ) (bits : List Bool) (xs : List ℕ) →
    EdgesStandFor (record { standing = standing; count = count }) bits xs → IsOk standing ↔ Begins Frames xs
standing-begins (Ok place) count bits xs s = (λ ok. leads-begins place bits xs s.1, λ b. refl)
standing-begins (Err refusal) count bits xs s = (λ ok. absurd (false≢true ok), λ b. absurd (s.1.bad.stops (begins-take Frames (s.0 + 1) xs b)))
