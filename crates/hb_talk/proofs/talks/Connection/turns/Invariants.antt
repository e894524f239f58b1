use Rattle.std.proofs.Common.{◌≤◌}
use Rattle.hb_desk.specs.Points.{IsStreamFault, Moves}
use Rattle.hb_desk.specs.ClockedDesks.{clocked}
use Rattle.hb_talk.specs.Progress.{Progress, work_left}
use Rattle.hb_talk.specs.Talks.{Moment, now_of}
use Rattle.hb_talk.proofs.talks.Connection.turns.Given as goal

-- the turns so far
abbrev pub invariant-loop-end : goal.invariant-loop-end
invariant-loop-end g l = record {
  talk : (start : Moment) → Progress (IsStreamFault g.row.D-Stage.Denot g.row.D-Reader.Denot g.D.Stage.Stage.faults g.D.Reader.Reader.faults) start (now_of (clocked (g.D.Desk.view l.initial.desk) (g.C.Clock.readings l.initial.clock)) (g.I.Source.left l.initial.input) (g.I.Source.ended l.initial.input) (g.O.Sink.held l.initial.out)) l.initial.self → Progress (IsStreamFault g.row.D-Stage.Denot g.row.D-Reader.Denot g.D.Stage.Stage.faults g.D.Reader.Reader.faults) start (now_of (clocked (g.D.Desk.view l.desk) (g.C.Clock.readings l.clock)) (g.I.Source.left l.input) (g.I.Source.ended l.input) (g.O.Sink.held l.out)) l.self;
  moves : Moves (g.D.Desk.view l.initial.desk) (g.D.Desk.view l.desk);
  read_later : g.I.Source.faults l.initial.input ≤ g.I.Source.faults l.input;
  write_later : g.O.Sink.faults l.initial.out ≤ g.O.Sink.faults l.out;
}

abbrev pub decreases-loop-end : goal.decreases-loop-end
decreases-loop-end g l = work_left l.self
