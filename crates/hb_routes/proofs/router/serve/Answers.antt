use Rattle.hb_routes.proofs.router.serve.Goals as goal

-- what a resource without a use for the query is asked for doesn't depend on it
pub returns-in-Base : goal.returns-in-Base
returns-in-Base c = rw c.in-Base.is (c.base.ensures c.args.query.now)

pub returns-in-Blob : goal.returns-in-Blob
returns-in-Blob c = rw c.in-Blob.is (c.blob.ensures c.args.query.now)

pub returns-in-Manifest : goal.returns-in-Manifest
returns-in-Manifest c = rw c.in-Manifest.is (c.manifest.ensures c.args.query.now)

pub returns-in-Rules : goal.returns-in-Rules
returns-in-Rules c = rw c.in-Rules.is (c.rules.ensures c.args.query.now)

pub returns-in-Job : goal.returns-in-Job
returns-in-Job c = rw c.in-Job.is (c.job.ensures c.args.query.now)
