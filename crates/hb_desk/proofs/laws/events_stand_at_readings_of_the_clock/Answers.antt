use Rattle.hb_desk.proofs.Chains.{readings-timely}
use Rattle.hb_desk.proofs.laws.events_stand_at_readings_of_the_clock.Goals as goal

pub returns : goal.returns
returns c = readings-timely
