-- The columns of each entity (PuppetDB query API v4, "Entities"; this project chose the columns).
use Rattle.std.specs.Prelude.{ℕ, suc, List, [], ◌∷◌, Option, Some, None, if◌then◌else◌, codes}
use Rattle.std.specs.Str.{bytes_eq}
use Rattle.fleet_rows.specs.declared.row.Entity.{Entity}
use Rattle.fleet_rows.specs.declared.row.Entity.TheVariants as entity
use Rattle.fleet_rows.specs.declared.column.Column.{Column}
use Rattle.fleet_rows.specs.declared.column.Column.TheVariants.{CatalogEnvironment, CatalogTimestamp, CatalogUuid, Certname, CodeId, ConfigurationVersion, Deactivated, EndTime, Environment, Expired, Exported, Facts, FactsEnvironment, FactsTimestamp, Failures, File, Hash, JobId, LatestReportHash, LatestReportNoop, LatestReportStatus, Line, Logs, Message, Metrics, Name, Noop, Noops, Others, Parameters, Path, Producer, ProducerTimestamp, Property, PuppetVersion, ReceiveTime, Relationship, Report, ReportEnvironment, ReportFormat, ReportTimestamp, Resource, ResourceTitle, ResourceType, Resources, Skips, SourceTitle, SourceType, StartTime, Status, Successes, Tags, TargetTitle, TargetType, Timestamp, Title, TransactionUuid, Trusted, «Type», Value, Version}

abbrev pub column_name : Column → List ℕ
column_name CatalogEnvironment = codes "catalog_environment"
column_name CatalogTimestamp = codes "catalog_timestamp"
column_name CatalogUuid = codes "catalog_uuid"
column_name Certname = codes "certname"
column_name CodeId = codes "code_id"
column_name ConfigurationVersion = codes "configuration_version"
column_name Deactivated = codes "deactivated"
column_name EndTime = codes "end_time"
column_name Environment = codes "environment"
column_name Expired = codes "expired"
column_name Exported = codes "exported"
column_name Facts = codes "facts"
column_name FactsEnvironment = codes "facts_environment"
column_name FactsTimestamp = codes "facts_timestamp"
column_name Failures = codes "failures"
column_name File = codes "file"
column_name Hash = codes "hash"
column_name JobId = codes "job_id"
column_name LatestReportHash = codes "latest_report_hash"
column_name LatestReportNoop = codes "latest_report_noop"
column_name LatestReportStatus = codes "latest_report_status"
column_name Line = codes "line"
column_name Logs = codes "logs"
column_name Message = codes "message"
column_name Metrics = codes "metrics"
column_name Name = codes "name"
column_name Noop = codes "noop"
column_name Noops = codes "noops"
column_name Others = codes "others"
column_name Parameters = codes "parameters"
column_name Path = codes "path"
column_name Producer = codes "producer"
column_name ProducerTimestamp = codes "producer_timestamp"
column_name Property = codes "property"
column_name PuppetVersion = codes "puppet_version"
column_name ReceiveTime = codes "receive_time"
column_name Relationship = codes "relationship"
column_name Report = codes "report"
column_name ReportEnvironment = codes "report_environment"
column_name ReportFormat = codes "report_format"
column_name ReportTimestamp = codes "report_timestamp"
column_name Resource = codes "resource"
column_name ResourceTitle = codes "resource_title"
column_name ResourceType = codes "resource_type"
column_name Resources = codes "resources"
column_name Skips = codes "skips"
column_name SourceTitle = codes "source_title"
column_name SourceType = codes "source_type"
column_name StartTime = codes "start_time"
column_name Status = codes "status"
column_name Successes = codes "successes"
column_name Tags = codes "tags"
column_name TargetTitle = codes "target_title"
column_name TargetType = codes "target_type"
column_name Timestamp = codes "timestamp"
column_name Title = codes "title"
column_name TransactionUuid = codes "transaction_uuid"
column_name Trusted = codes "trusted"
column_name «Type» = codes "type"
column_name Value = codes "value"
column_name Version = codes "version"

-- the columns of an entity's rows, in order
abbrev pub columns_of : Entity → List Column
columns_of entity.Nodes =
    CatalogEnvironment ∷ CatalogTimestamp ∷ Certname ∷ Deactivated ∷ Expired ∷ FactsEnvironment ∷ FactsTimestamp
    ∷ LatestReportHash ∷ LatestReportNoop ∷ LatestReportStatus ∷ ReportEnvironment ∷ ReportTimestamp ∷ []
columns_of entity.Factsets = Certname ∷ Environment ∷ Facts ∷ Hash ∷ Producer ∷ ProducerTimestamp ∷ []
columns_of entity.Facts = Certname ∷ Environment ∷ Name ∷ Value ∷ []
columns_of entity.Catalogs =
    CatalogUuid ∷ Certname ∷ CodeId ∷ Environment ∷ Hash ∷ JobId ∷ Producer ∷ ProducerTimestamp ∷ TransactionUuid
    ∷ Version ∷ []
columns_of entity.Resources =
    Certname ∷ Environment ∷ Exported ∷ File ∷ Line ∷ Parameters ∷ Resource ∷ Tags ∷ Title ∷ «Type» ∷ []
columns_of entity.Edges = Certname ∷ Relationship ∷ SourceTitle ∷ SourceType ∷ TargetTitle ∷ TargetType ∷ []
columns_of entity.Reports =
    Certname ∷ ConfigurationVersion ∷ EndTime ∷ Environment ∷ Hash ∷ Logs ∷ Metrics ∷ Noop ∷ Producer
    ∷ ProducerTimestamp ∷ PuppetVersion ∷ ReceiveTime ∷ ReportFormat ∷ Resources ∷ StartTime ∷ Status
    ∷ TransactionUuid ∷ []
columns_of entity.FactContents = Certname ∷ Environment ∷ Name ∷ Path ∷ Value ∷ []
columns_of entity.Inventory = Certname ∷ Environment ∷ Facts ∷ Timestamp ∷ Trusted ∷ []
columns_of entity.Events = Certname ∷ Message ∷ Property ∷ Report ∷ ResourceTitle ∷ ResourceType ∷ Status ∷ Timestamp ∷ []
columns_of entity.EventCounts = Certname ∷ Failures ∷ Noops ∷ Others ∷ Skips ∷ Successes ∷ []

-- each column once
abbrev pub all_columns : List Column
all_columns =
    CatalogEnvironment ∷ CatalogTimestamp ∷ CatalogUuid ∷ Certname ∷ CodeId ∷ ConfigurationVersion ∷ Deactivated
    ∷ EndTime ∷ Environment ∷ Expired ∷ Exported ∷ Facts ∷ FactsEnvironment ∷ FactsTimestamp ∷ Failures ∷ File ∷ Hash
    ∷ JobId ∷ LatestReportHash ∷ LatestReportNoop ∷ LatestReportStatus ∷ Line ∷ Logs ∷ Message ∷ Metrics ∷ Name ∷ Noop
    ∷ Noops ∷ Others ∷ Parameters ∷ Path ∷ Producer ∷ ProducerTimestamp ∷ Property ∷ PuppetVersion ∷ ReceiveTime
    ∷ Relationship ∷ Report ∷ ReportEnvironment ∷ ReportFormat ∷ ReportTimestamp ∷ Resource ∷ ResourceTitle
    ∷ ResourceType ∷ Resources ∷ Skips ∷ SourceTitle ∷ SourceType ∷ StartTime ∷ Status ∷ Successes ∷ Tags ∷ TargetTitle
    ∷ TargetType ∷ Timestamp ∷ Title ∷ TransactionUuid ∷ Trusted ∷ «Type» ∷ Value ∷ Version ∷ []

-- the first of the columns that has the name
abbrev pub first_named : List ℕ → List Column → Option Column
first_named name [] = None
first_named name (c ∷ cs) = if bytes_eq (column_name c) name then Some c else first_named name cs

abbrev pub column_named : List ℕ → Option Column
column_named name = first_named name all_columns

-- the index of a column in a list whose first index is `at`
abbrev pub place_in : Column → ℕ → List Column → Option ℕ
place_in column at [] = None
place_in column at (c ∷ cs) = if bytes_eq (column_name c) (column_name column) then Some at else place_in column (suc at) cs

-- the index of a column among those of an entity's rows
abbrev pub place_of : Entity → Column → Option ℕ
place_of entity column = place_in column 0 (columns_of entity)
