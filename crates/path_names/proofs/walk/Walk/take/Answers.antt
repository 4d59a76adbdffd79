use Rattle.std.proofs.Common.{ap, refl, ◌∷◌, []}
use Rattle.scope_walk.specs.Meant.{named_as, step_as}
use Rattle.scope_walk.specs.Steps.{EntersLoop, EntersText, LeavesLoop, LeavesText, MeetsCounter, MeetsLocal, MeetsParams, MeetsUnit}
use Rattle.path_names.proofs.StandLemmas.{passes}
use Rattle.path_names.proofs.walk.Walk.take.Goals as goal

pub returns-in-MeetParam-clause-takes : goal.returns-in-MeetParam-clause-takes
returns-in-MeetParam-clause-takes c = passes c.args.self.now c.args.step (MeetsParams (c.in-MeetParam.field-0.now ∷ [])) (ap step_as c.in-MeetParam.is) (record { found = λ s. refl; declared = λ s. refl; all = λ s. refl; scopes = λ s. refl; home = λ s. refl })

pub returns-in-MeetParams-clause-takes : goal.returns-in-MeetParams-clause-takes
returns-in-MeetParams-clause-takes c = passes c.args.self.now c.args.step (MeetsParams c.in-MeetParams.field-0.now) (ap step_as c.in-MeetParams.is) (record { found = λ s. refl; declared = λ s. refl; all = λ s. refl; scopes = λ s. refl; home = λ s. refl })

pub returns-in-MeetUnit-clause-takes : goal.returns-in-MeetUnit-clause-takes
returns-in-MeetUnit-clause-takes c = passes c.args.self.now c.args.step (MeetsUnit) (ap step_as c.in-MeetUnit.is) (record { found = λ s. refl; declared = λ s. refl; all = λ s. refl; scopes = λ s. refl; home = λ s. refl })

pub returns-in-MeetLocal-clause-takes : goal.returns-in-MeetLocal-clause-takes
returns-in-MeetLocal-clause-takes c = passes c.args.self.now c.args.step (MeetsLocal c.in-MeetLocal.field-0 c.in-MeetLocal.field-1.now (named_as c.in-MeetLocal.field-2)) (ap step_as c.in-MeetLocal.is) (record { found = λ s. refl; declared = λ s. refl; all = λ s. refl; scopes = λ s. refl; home = λ s. refl })

pub returns-in-MeetCounter-clause-takes : goal.returns-in-MeetCounter-clause-takes
returns-in-MeetCounter-clause-takes c = passes c.args.self.now c.args.step (MeetsCounter c.in-MeetCounter.field-0.now c.in-MeetCounter.field-1.now) (ap step_as c.in-MeetCounter.is) (record { found = λ s. refl; declared = λ s. refl; all = λ s. refl; scopes = λ s. refl; home = λ s. refl })

pub returns-in-EnterLoop-clause-takes : goal.returns-in-EnterLoop-clause-takes
returns-in-EnterLoop-clause-takes c = passes c.args.self.now c.args.step (EntersLoop) (ap step_as c.in-EnterLoop.is) (record { found = λ s. refl; declared = λ s. refl; all = λ s. refl; scopes = λ s. refl; home = λ s. refl })

pub returns-in-LeaveLoop-clause-takes : goal.returns-in-LeaveLoop-clause-takes
returns-in-LeaveLoop-clause-takes c = passes c.args.self.now c.args.step (LeavesLoop) (ap step_as c.in-LeaveLoop.is) (record { found = λ s. refl; declared = λ s. refl; all = λ s. refl; scopes = λ s. refl; home = λ s. refl })

pub returns-in-EnterText-clause-takes : goal.returns-in-EnterText-clause-takes
returns-in-EnterText-clause-takes c = passes c.args.self.now c.args.step (EntersText c.in-EnterText.field-0.now (named_as c.in-EnterText.field-1)) (ap step_as c.in-EnterText.is) (record { found = λ s. refl; declared = λ s. refl; all = λ s. refl; scopes = λ s. refl; home = λ s. refl })

pub returns-in-LeaveText-clause-takes : goal.returns-in-LeaveText-clause-takes
returns-in-LeaveText-clause-takes c = passes c.args.self.now c.args.step (LeavesText) (ap step_as c.in-LeaveText.is) (record { found = λ s. refl; declared = λ s. refl; all = λ s. refl; scopes = λ s. refl; home = λ s. refl })
