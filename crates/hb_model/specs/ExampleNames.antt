-- Names and digests of the worked examples. The digests stand here in their order.
use Rattle.std.specs.Prelude.{ℕ, List, [], ◌∷◌, codes}
use Rattle.hb_text.specs.declared.digests.Digest.{Digest}

-- ---- names
abbrev pub library : List ℕ
library = codes "library"

abbrev pub other : List ℕ
other = codes "other"

abbrev pub repo_a : List ℕ
repo_a = codes "library/a"

abbrev pub repo_x : List ℕ
repo_x = codes "other/x"

abbrev pub v1 : List ℕ
v1 = codes "v1"

abbrev pub all : List ℕ
all = codes "all"

-- the media types of a manifest and of an index (OCI Image Specification 1.1, "Media Types")
abbrev pub image_type : List ℕ
image_type = codes "application/vnd.oci.image.manifest.v1+json"

abbrev pub index_type : List ℕ
index_type = codes "application/vnd.oci.image.index.v1+json"

-- ---- digests
-- SHA-256 of `{}`, which has 2 bytes
abbrev pub braces : Digest
braces = record { 0 = 68 ∷ 19 ∷ 111 ∷ 163 ∷ 85 ∷ 179 ∷ 103 ∷ 138 ∷ 17 ∷ 70 ∷ 173 ∷ 22 ∷ 247 ∷ 232 ∷ 100 ∷ 158 ∷ 148 ∷ 251 ∷ 79 ∷ 194 ∷ 31 ∷ 231 ∷ 126 ∷ 131 ∷ 16 ∷ 192 ∷ 96 ∷ 246 ∷ 28 ∷ 170 ∷ 255 ∷ 138 ∷ [] }

-- that of a manifest of 400 bytes, that of another, and that of an index of 300 bytes: any 32 bytes will do
abbrev pub image : Digest
image = record { 0 = 112 ∷ 112 ∷ 112 ∷ 112 ∷ 112 ∷ 112 ∷ 112 ∷ 112 ∷ 112 ∷ 112 ∷ 112 ∷ 112 ∷ 112 ∷ 112 ∷ 112 ∷ 112 ∷ 112 ∷ 112 ∷ 112 ∷ 112 ∷ 112 ∷ 112 ∷ 112 ∷ 112 ∷ 112 ∷ 112 ∷ 112 ∷ 112 ∷ 112 ∷ 112 ∷ 112 ∷ 112 ∷ [] }

abbrev pub other_image : Digest
other_image = record { 0 = 120 ∷ 120 ∷ 120 ∷ 120 ∷ 120 ∷ 120 ∷ 120 ∷ 120 ∷ 120 ∷ 120 ∷ 120 ∷ 120 ∷ 120 ∷ 120 ∷ 120 ∷ 120 ∷ 120 ∷ 120 ∷ 120 ∷ 120 ∷ 120 ∷ 120 ∷ 120 ∷ 120 ∷ 120 ∷ 120 ∷ 120 ∷ 120 ∷ 120 ∷ 120 ∷ 120 ∷ 120 ∷ [] }

abbrev pub index : Digest
index = record { 0 = 128 ∷ 128 ∷ 128 ∷ 128 ∷ 128 ∷ 128 ∷ 128 ∷ 128 ∷ 128 ∷ 128 ∷ 128 ∷ 128 ∷ 128 ∷ 128 ∷ 128 ∷ 128 ∷ 128 ∷ 128 ∷ 128 ∷ 128 ∷ 128 ∷ 128 ∷ 128 ∷ 128 ∷ 128 ∷ 128 ∷ 128 ∷ 128 ∷ 128 ∷ 128 ∷ 128 ∷ 128 ∷ [] }

-- SHA-256 of `abc`, which has 3 bytes
abbrev pub abc : Digest
abc = record { 0 = 186 ∷ 120 ∷ 22 ∷ 191 ∷ 143 ∷ 1 ∷ 207 ∷ 234 ∷ 65 ∷ 65 ∷ 64 ∷ 222 ∷ 93 ∷ 174 ∷ 34 ∷ 35 ∷ 176 ∷ 3 ∷ 97 ∷ 163 ∷ 150 ∷ 23 ∷ 122 ∷ 156 ∷ 180 ∷ 16 ∷ 255 ∷ 97 ∷ 242 ∷ 0 ∷ 21 ∷ 173 ∷ [] }

-- SHA-256 of `a`, which has 1 byte
abbrev pub letter : Digest
letter = record { 0 = 202 ∷ 151 ∷ 129 ∷ 18 ∷ 202 ∷ 27 ∷ 189 ∷ 202 ∷ 250 ∷ 194 ∷ 49 ∷ 179 ∷ 154 ∷ 35 ∷ 220 ∷ 77 ∷ 167 ∷ 134 ∷ 239 ∷ 248 ∷ 20 ∷ 124 ∷ 78 ∷ 114 ∷ 185 ∷ 128 ∷ 119 ∷ 133 ∷ 175 ∷ 238 ∷ 72 ∷ 187 ∷ [] }
