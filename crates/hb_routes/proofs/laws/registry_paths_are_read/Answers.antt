use Rattle.hb_routes.proofs.WrittenPaths.{tags-written, uploads-written, upload-written, blob-written, manifest-written}
use Rattle.hb_routes.proofs.laws.registry_paths_are_read.Goals as goal

pub returns-clause-tags : goal.returns-clause-tags
returns-clause-tags c = tags-written

pub returns-clause-uploads : goal.returns-clause-uploads
returns-clause-uploads c = uploads-written

pub returns-clause-upload : goal.returns-clause-upload
returns-clause-upload c = upload-written

pub returns-clause-blob : goal.returns-clause-blob
returns-clause-blob c = blob-written

pub returns-clause-manifest : goal.returns-clause-manifest
returns-clause-manifest c = manifest-written
