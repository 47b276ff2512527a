pub mod KeyRules
pub mod TallyLaws
