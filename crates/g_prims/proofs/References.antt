-- Whether a type holds a reference, by its variants.
use Rattle.std.proofs.Common.{◌≡◌, Bool, List, map, refl, ap, sym, ◌∙◌, [], ◌∷◌, ◌||◌}
use Rattle.std.specs.List.{list_any}
use Rattle.g_types.specs.declared.ty.Ty.{Ty}
use Rattle.g_types.specs.declared.ty.Ty.TheVariants as ty
use Rattle.g_types.specs.declared.ty.Ty.TheOpen.{Ty-F}
use Rattle.g_types.specs.declared.ty.Ty.TheFolds.{fold-roll-Ty}
use Rattle.g_prims_definitions.specs.Kinds.{has_reference, reference_step}

any_mapped : (ts : List Ty) → list_any (λ b. b) (map has_reference ts) ≡ list_any has_reference ts
any_mapped [] = refl
any_mapped (t ∷ ts) = ap (λ b. has_reference t || b) (any_mapped ts)

pub reference_cluster : (ts : List Ty) → has_reference (ty.Cluster ts) ≡ list_any has_reference ts
reference_cluster ts = ap has_reference (sym (ty.rolls-Cluster ts)) ∙ fold-roll-Ty Bool reference_step (Ty-F.Cluster ts) ∙ any_mapped ts

pub ruleset references = (reference_cluster)
