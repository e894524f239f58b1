-- What the code finds in a path, as the definitions name it.
use Rattle.hb_routes.specs.Resources.{Resource as Named}
use Rattle.hb_routes.specs.Resources.Resource.{Base as NamedBase, Tags as NamedTags, Uploads as NamedUploads, Upload as NamedUpload, Blob as NamedBlob, Manifest as NamedManifest, Project as NamedProject, Rules as NamedRules, Jobs as NamedJobs, Job as NamedJob}
use Rattle.hb_routes.specs.declared.resources.Resource.{Resource}
use Rattle.hb_routes.specs.declared.resources.Resource.TheVariants.{Base, Tags, Uploads, Upload, Blob, Manifest, Project, Rules, Jobs, Job}

abbrev pub meaning_of : Resource → Named
meaning_of Base = NamedBase
meaning_of (Tags name) = NamedTags name.now
meaning_of (Uploads name) = NamedUploads name.now
meaning_of (Upload name id) = NamedUpload name.now id.now
meaning_of (Blob name digest) = NamedBlob name.now digest.now
meaning_of (Manifest name reference) = NamedManifest name.now reference.now
meaning_of (Project name) = NamedProject name.now
meaning_of (Rules name) = NamedRules name.now
meaning_of Jobs = NamedJobs
meaning_of (Job id) = NamedJob id.now
