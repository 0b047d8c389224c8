-- Each column is found by its name, so no two have one name.
use Rattle.std.proofs.Common.{◌≡◌, refl, Some}
use Rattle.fleet_rows.specs.declared.column.Column.{Column}
use Rattle.fleet_rows.specs.declared.column.Column.TheVariants.{CatalogEnvironment, CatalogTimestamp, CatalogUuid, Certname, CodeId, ConfigurationVersion, Deactivated, EndTime, Environment, Expired, Exported, Facts, FactsEnvironment, FactsTimestamp, Failures, File, Hash, JobId, LatestReportHash, LatestReportNoop, LatestReportStatus, Line, Logs, Message, Metrics, Name, Noop, Noops, Others, Parameters, Path, Producer, ProducerTimestamp, Property, PuppetVersion, ReceiveTime, Relationship, Report, ReportEnvironment, ReportFormat, ReportTimestamp, Resource, ResourceTitle, ResourceType, Resources, Skips, SourceTitle, SourceType, StartTime, Status, Successes, Tags, TargetTitle, TargetType, Timestamp, Title, TransactionUuid, Trusted, «Type», Value, Version}
use Rattle.fleet_rows.specs.Columns.{column_name, column_named}

pub each_is_found : (c : Column) → column_named (column_name c) ≡ Some c
each_is_found CatalogEnvironment = refl
each_is_found CatalogTimestamp = refl
each_is_found CatalogUuid = refl
each_is_found Certname = refl
each_is_found CodeId = refl
each_is_found ConfigurationVersion = refl
each_is_found Deactivated = refl
each_is_found EndTime = refl
each_is_found Environment = refl
each_is_found Expired = refl
each_is_found Exported = refl
each_is_found Facts = refl
each_is_found FactsEnvironment = refl
each_is_found FactsTimestamp = refl
each_is_found Failures = refl
each_is_found File = refl
each_is_found Hash = refl
each_is_found JobId = refl
each_is_found LatestReportHash = refl
each_is_found LatestReportNoop = refl
each_is_found LatestReportStatus = refl
each_is_found Line = refl
each_is_found Logs = refl
each_is_found Message = refl
each_is_found Metrics = refl
each_is_found Name = refl
each_is_found Noop = refl
each_is_found Noops = refl
each_is_found Others = refl
each_is_found Parameters = refl
each_is_found Path = refl
each_is_found Producer = refl
each_is_found ProducerTimestamp = refl
each_is_found Property = refl
each_is_found PuppetVersion = refl
each_is_found ReceiveTime = refl
each_is_found Relationship = refl
each_is_found Report = refl
each_is_found ReportEnvironment = refl
each_is_found ReportFormat = refl
each_is_found ReportTimestamp = refl
each_is_found Resource = refl
each_is_found ResourceTitle = refl
each_is_found ResourceType = refl
each_is_found Resources = refl
each_is_found Skips = refl
each_is_found SourceTitle = refl
each_is_found SourceType = refl
each_is_found StartTime = refl
each_is_found Status = refl
each_is_found Successes = refl
each_is_found Tags = refl
each_is_found TargetTitle = refl
each_is_found TargetType = refl
each_is_found Timestamp = refl
each_is_found Title = refl
each_is_found TransactionUuid = refl
each_is_found Trusted = refl
each_is_found «Type» = refl
each_is_found Value = refl
each_is_found Version = refl
