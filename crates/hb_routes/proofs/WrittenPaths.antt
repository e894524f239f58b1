-- Paths that are written for a resource name it.
use Rattle.std.proofs.Common.{◌≡◌, ℕ, ◌<◌, false, cond, List, [], ◌∷◌, ◌++◌, length, refl, sym, ap, ◌∙◌, nat_eq, inl, Some, codes, append_assoc, arith}
use Rattle.std.specs.List.{list_any}
use Rattle.hb_routes.specs.LastParts.{IsLastPart}
use Rattle.hb_routes.specs.Resources.{parts, is_empty, by_ending, behind_v2, resource_of}
use Rattle.hb_routes.specs.Resources.Resource.{Base, Tags, Uploads, Upload, Blob, Manifest}
use Rattle.hb_routes.proofs.Endings.{tags-named, blob-named, manifest-named, uploads-named, upload-named}
use Rattle.hb_routes.proofs.Fronts.{behind-front}
use Rattle.hb_routes.proofs.Parts.{parts-append}

-- a text with a byte isn't empty
some_byte : (s t : List ℕ) (b : ℕ) → is_empty (s ++ b ∷ t) ≡ false
some_byte [] t b = refl
some_byte (x ∷ s) t b = refl

-- what stands behind `/v2/`, where something does
by-parts : (name t : List ℕ) (ps : List (List ℕ)) → parts (name ++ 47 ∷ t) ≡ ps → resource_of (codes "/v2/" ++ (name ++ 47 ∷ t)) ≡ by_ending ps
by-parts name t ps e =
    let rest = name ++ 47 ∷ t in
    ap (λ o. behind_v2 o (codes "/v2/" ++ rest)) (behind-front (codes "/v2/") rest)
    ∙ ap (λ v. cond v (Some Base) (by_ending (parts rest))) (some_byte name t 47)
    ∙ ap by_ending e

-- the last two parts
last-two : (name k l : List ℕ) → list_any (nat_eq 47) k ≡ false → list_any (nat_eq 47) l ≡ false → parts (name ++ 47 ∷ (k ++ 47 ∷ l)) ≡ parts name ++ k ∷ l ∷ []
last-two name k l plain plain' =
    let grouped : name ++ 47 ∷ (k ++ 47 ∷ l) ≡ (name ++ 47 ∷ k) ++ 47 ∷ l = sym (append_assoc name (47 ∷ k) (47 ∷ l)) in
    ap parts grouped ∙ parts-append (name ++ 47 ∷ k) l plain' ∙ ap (λ ps. ps ++ l ∷ []) (parts-append name k plain) ∙ append_assoc (parts name) (k ∷ []) (l ∷ [])

pub tags-written : (name : List ℕ) → resource_of (codes "/v2/" ++ (name ++ codes "/tags/list")) ≡ Some (Tags name)
tags-written name =
    by-parts name (codes "tags/list") (parts name ++ codes "tags" ∷ codes "list" ∷ []) (last-two name (codes "tags") (codes "list") refl refl)
    ∙ tags-named (parts name) name (inl refl)

pub blob-written : (name digest : List ℕ) → list_any (nat_eq 47) digest ≡ false → resource_of (codes "/v2/" ++ (name ++ (codes "/blobs/" ++ digest))) ≡ Some (Blob name digest)
blob-written name digest plain =
    by-parts name (codes "blobs/" ++ digest) (parts name ++ codes "blobs" ∷ digest ∷ []) (last-two name (codes "blobs") digest refl plain)
    ∙ blob-named (parts name) name (inl refl) digest

pub manifest-written : (name reference : List ℕ) → list_any (nat_eq 47) reference ≡ false → resource_of (codes "/v2/" ++ (name ++ (codes "/manifests/" ++ reference))) ≡ Some (Manifest name reference)
manifest-written name reference plain =
    by-parts name (codes "manifests/" ++ reference) (parts name ++ codes "manifests" ∷ reference ∷ []) (last-two name (codes "manifests") reference refl plain)
    ∙ manifest-named (parts name) name (inl refl) reference

module _ (name : List ℕ) where
  -- what stands before `uploads`
  abbrev front : List ℕ
  front = name ++ codes "/blobs"

  blobs-last : IsLastPart front name (codes "blobs")
  blobs-last = record { before = parts name; of_front = inl refl; whole = parts-append name (codes "blobs") refl }

  upload-parts : (l : List ℕ) → list_any (nat_eq 47) l ≡ false → parts (name ++ (codes "/blobs/uploads/" ++ l)) ≡ parts front ++ codes "uploads" ∷ l ∷ []
  upload-parts l plain = ap parts (sym (append_assoc name (codes "/blobs") (codes "/uploads/" ++ l))) ∙ last-two front (codes "uploads") l refl plain

  pub uploads-written : resource_of (codes "/v2/" ++ (name ++ codes "/blobs/uploads/")) ≡ Some (Uploads name)
  uploads-written =
      by-parts name (codes "blobs/uploads/") (parts front ++ codes "uploads" ∷ [] ∷ []) (upload-parts [] refl)
      ∙ uploads-named (parts front) front name (codes "blobs") [] (inl refl) blobs-last refl refl

  some_id : (id : List ℕ) → 0 < length id → is_empty id ≡ false
  some_id [] h = absurd (omega arith)
  some_id (b ∷ id) h = refl

  pub upload-written : (id : List ℕ) → list_any (nat_eq 47) id ≡ false → 0 < length id → resource_of (codes "/v2/" ++ (name ++ (codes "/blobs/uploads/" ++ id))) ≡ Some (Upload name id)
  upload-written id plain long =
      by-parts name (codes "blobs/uploads/" ++ id) (parts front ++ codes "uploads" ∷ id ∷ []) (upload-parts id plain)
      ∙ upload-named (parts front) front name (codes "blobs") id (inl refl) blobs-last refl (some_id id long)
