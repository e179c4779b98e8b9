-- 6.3.2.5 Tag random or pseudo-random number generator; 6.3.2.4.8 Slot counter: what a tag draws. That draws come from a list
-- which begins again at its end is profile.
use Rattle.std.specs.Prelude.{ℕ, ◌+◌, ◌%◌, ◌^◌, ◌==◌, length, slice_index, if◌then◌else◌}
use Rattle.tag_body.specs.BodyValue.{BodyValue}

-- a draw is the word at the place of the next draw
abbrev pub draw_of : BodyValue → ℕ
draw_of body = slice_index body.words body.next_draw

-- the place behind one among so many words: it rises by one, and is 0 again where it reaches their number
abbrev pub place_behind : ℕ → ℕ → ℕ
place_behind count place = (if place + 1 == count then 0 else place + 1)

-- the place of the draw behind the next one
abbrev pub place_after : BodyValue → ℕ
place_after body = place_behind (length body.words) body.next_draw

-- a draw moves the place on, and changes nothing else
abbrev pub body_after_draw : BodyValue → BodyValue
body_after_draw body = record body { next_draw = place_after body }

-- the slot that a draw gives: its last Q bits
abbrev pub slot_of_draw : ℕ → BodyValue → ℕ
slot_of_draw q body = draw_of body % 2 ^ q
