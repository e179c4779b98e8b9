-- What holds of what the channel gives, whatever is chosen: of the reply in it, and of a raw stream.
use Rattle.std.proofs.Common.{ℕ, zero, suc, List, [], ◌∷◌, Option, Some, None, slice_get, refl}
use Rattle.std.specs.List.{AllByRecursion}
use Rattle.air_events.specs.declared.Choice.{Choice}
use Rattle.air_events.specs.declared.Choice.TheVariants as choices
use Rattle.air_events.specs.declared.Several.{Several}
use Rattle.air_events.specs.declared.Several.TheVariants as severals
use Rattle.pie_line.specs.Link.{LinkValue}
use Rattle.tag_machine.specs.Answers.{Sent}
use Rattle.air_model.specs.Channel.{whole_or_silence, given_of, IsReadBy, IsOfReplies, GoesByReplies}
use Rattle.tag_machine.specs.TagsInExchange.{Replied}
use Rattle.air_model.specs.Reception.{HoldsOfSent}

-- what holds of each reply holds of the one of a number
picked : (P : Sent → Type 0) (replies : List Replied) (number : ℕ) → AllByRecursion (λ replied. P replied.sent) replies → HoldsOfSent P (whole_or_silence (slice_get replies number))
picked P [] number all = tt
picked P (replied ∷ others) zero all = all.0
picked P (replied ∷ others) (suc number) all = picked P others number all.1

-- what holds of each reply holds of the one that the channel gives
pub given_of_sent : (P : Sent → Type 0) (link : LinkValue) (replies : List Replied) (choice : Option Choice) (several : Several)
    → AllByRecursion (λ replied. P replied.sent) replies → HoldsOfSent P (given_of link replies choice several)
given_of_sent P link replies (Some (choices.Pick number)) several all = picked P replies number all
given_of_sent P link replies (Some choices.Silent) several all = tt
given_of_sent P link [] (Some (choices.Break place)) several all = tt
given_of_sent P link (replied ∷ others) (Some (choices.Break place)) several all = all.0
given_of_sent P link replies (Some (choices.Raw levels)) several all = tt
given_of_sent P link [] None several all = tt
given_of_sent P link (replied ∷ []) None several all = all.0
given_of_sent P link (replied ∷ other ∷ others) None severals.Break all = all.0
given_of_sent P link (replied ∷ other ∷ others) None severals.Capture all = all.0

-- a raw stream is heard by the link's code and TRext
pub given_is_read : (link : LinkValue) (replies : List Replied) (choice : Option Choice) (several : Several) → IsReadBy link (given_of link replies choice several)
given_is_read link replies (Some (choices.Pick number)) several = picked_read (slice_get replies number)
  where
    picked_read : (picked : Option Replied) → IsReadBy link (whole_or_silence picked)
    picked_read None = tt
    picked_read (Some replied) = tt
given_is_read link replies (Some choices.Silent) several = tt
given_is_read link [] (Some (choices.Break place)) several = tt
given_is_read link (replied ∷ others) (Some (choices.Break place)) several = tt
given_is_read link replies (Some (choices.Raw levels)) several = (refl, refl)
given_is_read link [] None several = tt
given_is_read link (replied ∷ []) None several = tt
given_is_read link (replied ∷ other ∷ others) None severals.Break = tt
given_is_read link (replied ∷ other ∷ others) None severals.Capture = tt

-- where no raw stream is chosen, none is given
pub given_of_replies : (link : LinkValue) (replies : List Replied) (choice : Option Choice) (several : Several) → GoesByReplies choice
    → IsOfReplies (given_of link replies choice several)
given_of_replies link replies (Some (choices.Pick number)) several goes = picked_reply (slice_get replies number)
  where
    picked_reply : (picked : Option Replied) → IsOfReplies (whole_or_silence picked)
    picked_reply None = tt
    picked_reply (Some replied) = tt
given_of_replies link replies (Some choices.Silent) several goes = tt
given_of_replies link [] (Some (choices.Break place)) several goes = tt
given_of_replies link (replied ∷ others) (Some (choices.Break place)) several goes = tt
given_of_replies link replies (Some (choices.Raw levels)) several goes = absurd goes
given_of_replies link [] None several goes = tt
given_of_replies link (replied ∷ []) None several goes = tt
given_of_replies link (replied ∷ other ∷ others) None severals.Break goes = tt
given_of_replies link (replied ∷ other ∷ others) None severals.Capture goes = tt
