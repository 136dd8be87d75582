-- A table of the numbers of actions.
use Rattle.std.proofs.Common.{◌≡◌, ℕ, true, false, Option, Some, None, List, ◌≤◌, length, take, refl, ap, sym, ◌∙◌, map}
use Rattle.std.proofs.lemmas.List.{take_all}
use Rattle.std.specs.Prelude.{slice_get, option_map, option_and_then}
use Rattle.std.proofs.lemmas.Option.{slice_get-map, same_Some}
use Rattle.lx_code.specs.declared.code.ActionCounts.{ActionCounts}
use Rattle.lx_code.specs.Reach.{count_in, CountsActions}
use Rattle.lx_model.specs.declared.program.Program.{Program}
use Rattle.lx_model.specs.Program as program
use Rattle.lx_serve.specs.declared.source.Source.{Source}
use Rattle.lx_serve.specs.Sources.{annotation_at, source_of, Knows}
use Rattle.lx_annotation_tables.specs.Counted.{pre_count, post_count}
use Rattle.lx_annotation_tables.specs.Entries.{annotation_by}

pre_at : (p : Program) (c : Option ActionCounts) (s : Option (Option Source)) → option_map (λ (x : ActionCounts). x.pre) c ≡ option_map (λ s. pre_count (annotation_by p s)) s
    → count_in false c ≡ pre_count (option_and_then (annotation_at p.interface) (source_of s))
unfolding annotation_by
pre_at p None None h = refl
pre_at p None (Some s) h = absurd (cc)
pre_at p (Some c) None h = absurd (cc)
pre_at p (Some c) (Some s) h = same_Some _ _ h

post_at : (p : Program) (c : Option ActionCounts) (s : Option (Option Source)) → option_map (λ (x : ActionCounts). x.post) c ≡ option_map (λ s. post_count (annotation_by p s)) s
    → count_in true c ≡ post_count (option_and_then (annotation_at p.interface) (source_of s))
unfolding annotation_by
post_at p None None h = refl
post_at p None (Some s) h = absurd (cc)
post_at p (Some c) None h = absurd (cc)
post_at p (Some c) (Some s) h = same_Some _ _ h

at_place : {A B C : Type 0} (f : A → C) (g : B → C) (xs : List A) (ys : List B) (n : ℕ) → map f xs ≡ map g ys → option_map f (slice_get xs n) ≡ option_map g (slice_get ys n)
at_place f g xs ys n h = sym (slice_get-map f xs n) ∙ (ap (λ zs. slice_get zs n) h ∙ slice_get-map g ys n)

pub counted : (p : Program) (table : List ActionCounts) (sources : List (Option Source)) → Knows p sources
    → map (λ (x : ActionCounts). x.pre) table ≡ map (λ s. pre_count (annotation_by p s)) sources
    → map (λ (x : ActionCounts). x.post) table ≡ map (λ s. post_count (annotation_by p s)) sources
    → CountsActions p table
counted p table sources knows pre post n true =
    post_at p (slice_get table n) (slice_get sources n) (at_place (λ (x : ActionCounts). x.post) (λ s. post_count (annotation_by p s)) table sources n post) ∙ ap post_count (knows n)
counted p table sources knows pre post n false =
    pre_at p (slice_get table n) (slice_get sources n) (at_place (λ (x : ActionCounts). x.pre) (λ s. pre_count (annotation_by p s)) table sources n pre) ∙ ap pre_count (knows n)

pub counted_all : (p : Program) (table : List ActionCounts) (sources : List (Option Source)) (k : ℕ) → Knows p sources → length sources ≤ k
    → map (λ (x : ActionCounts). x.pre) table ≡ map (λ s. pre_count (annotation_by p s)) (take k sources)
    → map (λ (x : ActionCounts). x.post) table ≡ map (λ s. post_count (annotation_by p s)) (take k sources)
    → CountsActions p table
counted_all p table sources k knows h pre post =
    counted p table sources knows (pre ∙ ap (map (λ s. pre_count (annotation_by p s))) (take_all k sources h)) (post ∙ ap (map (λ s. post_count (annotation_by p s))) (take_all k sources h))
