use Rattle.std.proofs.Common.{◌≡◌, [], false}
use Rattle.hb_desk.specs.Points.{IsStreamFault, Moves}
use Rattle.hb_desk.specs.Chains.{Driven}
use Rattle.hb_desk.specs.ClockedDesks.{clocked}
use Rattle.hb_desk.proofs.ops.drive.Given as goal

-- the points so far, and that it goes on
abbrev pub invariant-loop : goal.invariant-loop
invariant-loop g l = record {
  ready : g.O.Op.done l.op ≡ false;
  fits : g.O.Op.fits l.op (g.D.Desk.view l.desk);
  moves : Moves (g.D.Desk.view l.initial.desk) (g.D.Desk.view l.desk);
  driven : (begun : g.row.O.Denot) → g.O.Op.since begun l.initial.op [] → Driven (IsStreamFault g.row.D-Stage.Denot g.row.D-Reader.Denot g.D.Stage.Stage.faults g.D.Reader.Reader.faults) (clocked (g.D.Desk.view l.initial.desk) (g.C.Clock.readings l.initial.clock)) (clocked (g.D.Desk.view l.desk) (g.C.Clock.readings l.clock)) (g.O.Op.since begun l.op);
}

abbrev pub decreases-loop : goal.decreases-loop
decreases-loop g l = g.O.Op.left l.op (g.D.Desk.view l.desk).entries
