use Rattle.scenario.proofs.LinesBefore.{may-stand, has-room, disagrees-with}
use Rattle.scenario.proofs.text_laws.reasons_tell_of_lines_before.Goals as goal

pub returns-clause-word : goal.returns-clause-word
returns-clause-word c = may-stand

pub returns-clause-limit : goal.returns-clause-limit
returns-clause-limit c = has-room

pub returns-clause-disagrees : goal.returns-clause-disagrees
returns-clause-disagrees c = disagrees-with
