pub mod HistoryLines
pub mod KeyLaws
pub mod AnswerNumbers
pub mod NeedNumbers
pub mod ScriptNumbers
pub mod HistoryNumbers
