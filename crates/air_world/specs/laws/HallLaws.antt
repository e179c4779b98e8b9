-- What a round makes of the tags of a hall.
use Rattle.std.specs.Prelude.{◌≡◌, List}
use Rattle.q_round.specs.SpecValue.{SpecValue, IsLegalSpec}
use Rattle.q_round.specs.declared.round.RoundEnd.TheVariants as ends
use Rattle.runs.proofs.OneRound.{lists-its-tags, is-quiet-round}
use Rattle.runs.specs.RoundsTold.{played_of}
use Rattle.tag_machine.specs.TagValue.{TagValue}
use Rattle.two_portals.specs.Played.{AreReady, IsQuietRound, ListsItsTags}

pub hall_senders : (before : List TagValue) (spec : SpecValue) → IsLegalSpec spec → ListsItsTags before (played_of before spec)
hall_senders before spec legal = lists-its-tags before spec legal

pub hall_quiet : (before : List TagValue) (spec : SpecValue) → IsLegalSpec spec → AreReady before → (played_of before spec).end ≡ ends.Quiet
    → IsQuietRound before spec (played_of before spec)
hall_quiet before spec legal ready quiet = is-quiet-round before spec legal ready quiet
