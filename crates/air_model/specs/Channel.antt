-- Profile: what the channel gives the interrogator behind one command. The standard leaves collisions, noise and jammers to the
-- world; here the channel gives one reply whole, breaks one, is silent, or gives levels that no tag sent.
use Rattle.std.specs.Prelude.{◌≡◌, ℕ, ◌≤◌, ◌%◌, Bool, ◌||◌, List, [], ◌∷◌, length, Option, Some, None, slice_get}
use Rattle.air_events.specs.declared.Choice.{Choice}
use Rattle.air_events.specs.declared.Choice.TheVariants as choices
use Rattle.air_events.specs.declared.Entry.{Entry}
use Rattle.air_events.specs.declared.Several.{Several}
use Rattle.air_events.specs.declared.Several.TheVariants as severals
use Rattle.air_events.specs.Streams.{longest_stream, HasStreamLength}
use Rattle.bit_strings.specs.declared.code.Code.{Code}
use Rattle.command_grammar.specs.declared.commands.Command.{Command}
use Rattle.command_grammar.specs.declared.commands.Command.TheVariants as commands
use Rattle.command_grammar.specs.Commands.{spelling_of}
use Rattle.line_code.specs.TableFacts.{with_level_flipped}
use Rattle.line_code.specs.Stream.{stream_of}
use Rattle.reply_wire.specs.Codes.{table_of}
use Rattle.pie_line.specs.Link.{LinkValue}
use Rattle.pie_line.specs.Pie.{wave_of}
use Rattle.pie_line.specs.declared.frame.Lead.{Lead}
use Rattle.pie_line.specs.declared.frame.Lead.TheVariants.{Preamble, FrameSync}
use Rattle.reply_grammar.specs.Replies.{spelling}
use Rattle.tag_machine.specs.Answers.{Sent}
use Rattle.tag_machine.specs.TagValue.{TagValue}
use Rattle.tag_machine.specs.TagsInExchange.{Replied, replies_in}
use Rattle.air_model.specs.declared.got.Got.{Got}
use Rattle.air_model.specs.declared.got.Got.TheVariants as gots

-- 6.3.1.2.8: a Query begins with a preamble, every other command with a frame-sync
abbrev pub lead_of : Command → Lead
lead_of (commands.Query dr line_code trext sel session target q) = Preamble
lead_of command = FrameSync

-- the frame that a command is sent as
abbrev pub wave_for : LinkValue → Command → List ℕ
wave_for link command = wave_of link (lead_of command) (spelling_of command)

-- what the channel gives: nothing, a tag's reply whole, a tag's reply with one level inverted: that at the number modulo the
-- stream's length, or a raw stream: levels that are no tag's reply, with the code and the TRext by which they are heard
pub data Given : Type 0 where
  silence : Given
  whole : (replied : Replied) → Given
  broken : (replied : Replied) → (place : ℕ) → Given
  raw : (code : Code) → (trext : Bool) → (levels : List Bool) → Given

abbrev pub whole_or_silence : Option Replied → Given
whole_or_silence None = silence
whole_or_silence (Some replied) = whole replied

-- the first reply, broken
abbrev pub first_broken : List Replied → ℕ → Given
first_broken [] place = silence
first_broken (replied ∷ others) place = broken replied place

-- where several tags replied: the first reply, broken at its first level or captured whole
abbrev pub first_of_several : Several → Replied → Given
first_of_several severals.Break replied = broken replied 0
first_of_several severals.Capture replied = whole replied

-- where nothing is chosen
abbrev pub default_given : Several → List Replied → Given
default_given several [] = silence
default_given several (replied ∷ []) = whole replied
default_given several (replied ∷ other ∷ others) = first_of_several several replied

-- what the channel gives of these replies, in the order of the tags, by what is chosen, or by the default for several; raw
-- levels it gives whether or not a tag replied
abbrev pub given_of : LinkValue → List Replied → Option Choice → Several → Given
given_of link replies (Some (choices.Pick number)) several = whole_or_silence (slice_get replies number)
given_of link replies (Some choices.Silent) several = silence
given_of link replies (Some (choices.Break place)) several = first_broken replies place
given_of link replies (Some (choices.Raw levels)) several = raw link.code link.trext levels
given_of link replies None several = default_given several replies

-- what it gives where tags hear a command, or miss it
abbrev pub given_in : LinkValue → Several → Command → Entry → List TagValue → Given
given_in link several command entry tags = given_of link (replies_in command entry tags) entry.choice several

-- the levels of a reply (6.3.1.3.2): with the extended preamble where the tag marked it so, else by the link's TRext
abbrev pub levels_of : LinkValue → Sent → List Bool
levels_of link sent = stream_of (table_of link.code) (sent.extended || link.trext) (spelling sent.reply sent.handle)

-- the levels that the interrogator hears
abbrev pub heard_levels : LinkValue → Given → List Bool
heard_levels link silence = []
heard_levels link (whole replied) = levels_of link replied.sent
heard_levels link (broken replied place) =
    let levels = levels_of link replied.sent in with_level_flipped levels (place % length levels)
heard_levels link (raw code trext levels) = levels

-- whom the channel gives, by the number of the tag, and of a broken reply the place of the level that is inverted
abbrev pub got_of : LinkValue → Given → Got
got_of link silence = gots.Silence
got_of link (whole replied) = gots.Whole replied.number
got_of link (broken replied place) = gots.Broken replied.number (place % length (levels_of link replied.sent))
got_of link (raw code trext levels) = gots.Raw

-- where a raw stream is chosen, it has no more levels than the longest reply
abbrev pub HasFewLevels : Option Choice → Type 0
HasFewLevels (Some (choices.Raw levels)) = length levels ≤ longest_stream
HasFewLevels choice = Unit {0}

-- a raw stream has a level at least, and no more than the longest reply
abbrev pub IsOfStreamLength : Given → Type 0
IsOfStreamLength (raw code trext levels) = HasStreamLength levels
IsOfStreamLength given = Unit {0}

-- a raw stream is heard by the code and the TRext of the link
abbrev pub IsReadBy : LinkValue → Given → Type 0
IsReadBy link (raw code trext levels) = (code ≡ link.code) × (trext ≡ link.trext)
IsReadBy link given = Unit {0}

-- what is given comes of the replies: it is no raw stream
abbrev pub IsOfReplies : Given → Type 0
IsOfReplies (raw code trext levels) = ⊥
IsOfReplies given = Unit {0}

-- what is given is to come of the replies: no raw stream is chosen
abbrev pub GoesByReplies : Option Choice → Type 0
GoesByReplies (Some (choices.Raw levels)) = ⊥
GoesByReplies choice = Unit {0}
