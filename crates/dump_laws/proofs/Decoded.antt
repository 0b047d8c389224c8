-- The value of a payload stands for its change.
use Rattle.std.proofs.Common.{◌∙◌, ap, Ok}
use Rattle.dump_spec.specs.fleet_rows.declared.change.Change.TheVariants as change
use Rattle.dump_spec.specs.fleet_rows.declared.command.Kind.TheVariants as kind
use Rattle.dump_spec.specs.wire_spec.Table.{◌>>=◌, object_change}
use Rattle.dump_spec.specs.Payloads.{there, facts_fields, catalog_fields, report_fields, deactivate_fields, expiration_fields}
use Rattle.dump_spec.proofs.of_text_spec.JsonLemmas.{members_list-of}
use Rattle.dump_laws.specs.PayloadLaws.{PayloadsHaveTheirChange}
use Rattle.dump_laws.proofs.Catalogs.{catalog_is}
use Rattle.dump_laws.proofs.PlainKinds.{facts_are, report_is, deactivation_is, expiration_is}

pub payloads_have_their_change : PayloadsHaveTheirChange
payloads_have_their_change (change.Facts c) h = ap (object_change kind.Facts) (members_list-of (there (facts_fields c))) ∙ ap (λ r. r >>= (λ d. Ok (change.Facts d))) (facts_are c h)
payloads_have_their_change (change.Catalog c) h = ap (object_change kind.Catalog) (members_list-of (there (catalog_fields c))) ∙ ap (λ r. r >>= (λ d. Ok (change.Catalog d))) (catalog_is c h)
payloads_have_their_change (change.Report r) h = ap (object_change kind.Report) (members_list-of (there (report_fields r))) ∙ ap (λ s. s >>= (λ d. Ok (change.Report d))) (report_is r h)
payloads_have_their_change (change.Deactivate c) h = ap (object_change kind.Deactivate) (members_list-of (there (deactivate_fields c))) ∙ ap (λ r. r >>= (λ d. Ok (change.Deactivate d))) (deactivation_is c h)
payloads_have_their_change (change.Expiration c) h = ap (object_change kind.Expiration) (members_list-of (there (expiration_fields c))) ∙ ap (λ r. r >>= (λ d. Ok (change.Expiration d))) (expiration_is c h)
