use Rattle.std.proofs.Common.{◌∙◌, ◌++◌, ◌∷◌, [], Some, codes}
use Rattle.std.specs.Option.{option_map}
use Rattle.std.proofs.lemmas.Result.{on_ok_weaker}
use Rattle.dump_laws.specs.dump_spec.text_spec.Compact.{compact}
use Rattle.dump_laws.specs.dump_spec.text_spec.Json.{boolean, string}
use Rattle.dump_laws.specs.dump_spec.Payloads.{dictionary, if_any, list, stamp, whole}
use Rattle.dump_writer.proofs.payload.put_report.Goals as goal

-- what is read of the report is what it has
pub returns : goal.returns
returns c =
    on_ok_weaker c.put_dictionary.result
    (λ e. e ∙ (λ i. c.args.out.now.items ++ compact (dictionary (
    (codes "certname", Some (string (c.certname.ensures i)))
    ∷ (codes "environment", option_map string (c.environment.ensures i))
    ∷ (codes "puppet_version", option_map string (c.puppet_version.ensures i))
    ∷ (codes "report_format", option_map whole (c.report_format.ensures i))
    ∷ (codes "configuration_version", option_map string (c.configuration_version.ensures i))
    ∷ (codes "start_time", option_map stamp (c.start_time.ensures i))
    ∷ (codes "end_time", option_map stamp (c.end_time.ensures i))
    ∷ (codes "producer_timestamp", Some (stamp (c.stamp.ensures i)))
    ∷ (codes "producer", option_map string (c.producer.ensures i))
    ∷ (codes "noop", option_map boolean (c.noop.ensures i))
    ∷ (codes "status", option_map string (c.status.ensures i))
    ∷ (codes "transaction_uuid", option_map string (c.transaction_uuid.ensures i))
    ∷ (codes "resources", if_any list (c.lists-lists.ensures.0 i))
    ∷ (codes "logs", if_any list (c.lists-lists.ensures.1 i))
    ∷ (codes "metrics", if_any list (c.lists-lists.ensures.2 i))
    ∷ []))))
    c.put_dictionary.ensures
